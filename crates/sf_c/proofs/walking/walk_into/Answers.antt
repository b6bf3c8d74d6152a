use Rattle.std.proofs.Common.{ap, ◌∙◌}
use Rattle.sf_c.specs.Sample.{stack_memory, sample_thread}
use Rattle.sf_model.specs.Walk.{recover_by}
use Rattle.sf_c.specs.Walk.{stop_shown}
use Rattle.sf_c.proofs.Listed.{begins, fills, goes, halts}
use Rattle.sf_c.proofs.walking.walk_into.Goals as goal

pub loop-count-init : goal.loop-count-init
loop-count-init g c =
    begins (recover_by (g.L.LookUp.found_at c.args.rows.now) (stack_memory c.args.sample.now)) (sample_thread c.args.sample.now) c.args.frames.now c.registers.result c.registers.ensures

pub returns-in-Err-clause-frames : goal.returns-in-Err-clause-frames
returns-in-Err-clause-frames g c = (halts (g.L.LookUp.found_at c.args.rows.now) c.args.sample.now c.loop-count-test.true c.memory-stack.ensures c.known_mask-mask.ensures c.in-Err.is c.step-next.ensures c.frame_shown.ensures c.loop-count.invariant).room

pub returns-in-Err-clause-count : goal.returns-in-Err-clause-count
returns-in-Err-clause-count g c = (halts (g.L.LookUp.found_at c.args.rows.now) c.args.sample.now c.loop-count-test.true c.memory-stack.ensures c.known_mask-mask.ensures c.in-Err.is c.step-next.ensures c.frame_shown.ensures c.loop-count.invariant).frames

pub returns-in-Err-clause-stop : goal.returns-in-Err-clause-stop
returns-in-Err-clause-stop g c = c.stop_shown.ensures ∙ ap stop_shown (halts (g.L.LookUp.found_at c.args.rows.now) c.args.sample.now c.loop-count-test.true c.memory-stack.ensures c.known_mask-mask.ensures c.in-Err.is c.step-next.ensures c.frame_shown.ensures c.loop-count.invariant).reason

pub loop-count-preserved : goal.loop-count-preserved
loop-count-preserved g c =
    goes (g.L.LookUp.found_at c.args.rows.now) c.args.sample.now c.loop-count-test.true c.address_before-asked.ensures c.memory-stack.ensures c.known_mask-mask.ensures c.in-Ok.is c.step-next.ensures c.frame_shown.ensures c.loop-count.invariant

pub returns-clause-frames : goal.returns-clause-frames
returns-clause-frames g c = (fills c.loop-count-test.false c.loop-count.invariant).room

pub returns-clause-count : goal.returns-clause-count
returns-clause-count g c = (fills c.loop-count-test.false c.loop-count.invariant).frames

pub returns-clause-stop : goal.returns-clause-stop
returns-clause-stop g c = c.stop_shown-2.ensures ∙ ap stop_shown (fills c.loop-count-test.false c.loop-count.invariant).reason
