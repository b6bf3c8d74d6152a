use Rattle.std.proofs.Common.{length}
use Rattle.sample_walk.proofs.Listed.{fills, goes, halts, taken}
use Rattle.sample_walk.proofs.PartWalks.{finished_first}
use Rattle.sample_walk.proofs.walking.walk_on.Goals as goal

pub loop-count-preserved : goal.loop-count-preserved
loop-count-preserved g c =
    let step = taken (g.L.Modules.row_at c.args.modules.now) (g.L.Modules.index_at c.args.modules.now) c.args.mask (g.M.Memory.regions c.args.mem.now) c.asked.ensures c.locate-found.ensures.found c.step-next.ensures c.module_frame.ensures c.in-Ok.is in
    record { right = c.locate-found.ensures.cache; so_far = goes c.loop-count-test.true step c.loop-count.invariant.so_far }

pub returns-in-Err-clause-frames : goal.returns-in-Err-clause-frames
returns-in-Err-clause-frames g c =
    let step = taken (g.L.Modules.row_at c.args.modules.now) (g.L.Modules.index_at c.args.modules.now) c.args.mask (g.M.Memory.regions c.args.mem.now) c.asked.ensures c.locate-found.ensures.found c.step-next.ensures c.module_frame.ensures c.in-Err.is in
    (halts c.loop-count-test.true step c.loop-count.invariant.so_far).room

pub returns-in-Err-clause-ended : goal.returns-in-Err-clause-ended
returns-in-Err-clause-ended g c =
    let step = taken (g.L.Modules.row_at c.args.modules.now) (g.L.Modules.index_at c.args.modules.now) c.args.mask (g.M.Memory.regions c.args.mem.now) c.asked.ensures c.locate-found.ensures.found c.step-next.ensures c.module_frame.ensures c.in-Err.is in
    (halts c.loop-count-test.true step c.loop-count.invariant.so_far).end

pub returns-clause-frames : goal.returns-clause-frames
returns-clause-frames g c = (fills c.loop-count-test.false c.loop-count.invariant.so_far).room

pub returns-clause-ended : goal.returns-clause-ended
returns-clause-ended g c = (fills c.loop-count-test.false c.loop-count.invariant.so_far).end

pub returns-in-Err-clause-first : goal.returns-in-Err-clause-first
returns-in-Err-clause-first g c =
    let look_up = g.L.Modules.row_at c.args.modules.now in
    let memory = g.M.Memory.regions c.args.mem.now in
    let step = taken look_up (g.L.Modules.index_at c.args.modules.now) c.args.mask memory c.asked.ensures c.locate-found.ensures.found c.step-next.ensures c.module_frame.ensures c.in-Err.is in
    finished_first look_up c.args.mask memory (length c.args.frames.now) c.args.start (halts c.loop-count-test.true step c.loop-count.invariant.so_far)

pub returns-clause-first : goal.returns-clause-first
returns-clause-first g c =
    finished_first (g.L.Modules.row_at c.args.modules.now) c.args.mask (g.M.Memory.regions c.args.mem.now) (length c.args.frames.now) c.args.start
    (fills c.loop-count-test.false c.loop-count.invariant.so_far)
