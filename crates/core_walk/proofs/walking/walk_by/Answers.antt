use Rattle.std.proofs.Common.{◌-◌, ◌+◌, ◌∙◌, ℕ, Result, ap, arith}
use Rattle.core_walk.specs.declared.step.Caller.{Caller}
use Rattle.sf_model.specs.declared.walk.Stop.{Stop}
use Rattle.sf_model.specs.declared.walk.Stop.TheVariants.{Depth}
use Rattle.sf_model.specs.Walk.{behind, frames_from, look_up_walk, recover_by}
use Rattle.core_walk.specs.Step.{on_with}
use Rattle.core_walk.specs.Walk.{thread_state}
use Rattle.core_walk.proofs.Frames.{after_frames, ends, goes_on, starts, stops, whole_list}
use Rattle.core_walk.proofs.walking.walk_by.Goals as goal

pub loop-listed-init : goal.loop-listed-init
loop-listed-init g c =
    starts (g.L.LookUp.found_at c.args.rows.now) (thread_state c.args.thread.now) (g.M.Memory.regions c.args.mem.now) c.args.depth (c.args.depth - 0) c.new-frames.result.items (omega arith)
    c.new-frames.ensures.items

pub returns-in-Err : goal.returns-in-Err
returns-in-Err g c =
    let look_up = g.L.LookUp.found_at c.args.rows.now in
    let memory = g.M.Memory.regions c.args.mem.now in
    let frame = c.step-next.result.0 in
    let whole = look_up_walk look_up (thread_state c.args.thread.now) memory c.args.depth in
    whole_list c.push.new.self.items c.in-Err.stop whole
    (stops (recover_by look_up memory) c.args.thread.now.mask c.args.depth c.loop-listed.listed c.loop-listed.asked c.loop-listed.at c.loop-listed.frames.items c.push.new.self.items frame c.in-Err.stop whole
    c.loop-listed-test.true (λ go. c.step-next.ensures go ∙ ap (λ (next : Result Caller Stop). behind frame (on_with go next)) c.in-Err.is) c.in_ok-push.ensures.items c.loop-listed.invariant)

pub loop-listed-preserved : goal.loop-listed-preserved
loop-listed-preserved g c =
    let look_up = g.L.LookUp.found_at c.args.rows.now in
    let memory = g.M.Memory.regions c.args.mem.now in
    let rows = recover_by look_up memory in
    let mask = c.args.thread.now.mask in
    let frame = c.step-next.result.0 in
    let whole = look_up_walk look_up (thread_state c.args.thread.now) memory c.args.depth in
    ap (λ (asked : ℕ). after_frames c.push.new.self.items (frames_from rows mask (c.args.depth - (c.loop-listed.listed + 1)) asked c.in-Ok.caller.pc c.in-Ok.caller.regs)) c.address_before-asked.ensures
    ∙ goes_on rows mask c.args.depth c.loop-listed.listed c.loop-listed.asked c.loop-listed.at c.in-Ok.caller c.loop-listed.frames.items c.push.new.self.items frame whole
    c.loop-listed-test.true (λ go. c.step-next.ensures go ∙ ap (λ (next : Result Caller Stop). behind frame (on_with go next)) c.in-Ok.is) c.in_ok-push.ensures.items c.loop-listed.invariant

pub returns : goal.returns
returns g c =
    let look_up = g.L.LookUp.found_at c.args.rows.now in
    let memory = g.M.Memory.regions c.args.mem.now in
    let whole = look_up_walk look_up (thread_state c.args.thread.now) memory c.args.depth in
    whole_list c.loop-listed.frames.items Depth whole
    (ends (recover_by look_up memory) c.args.thread.now.mask (c.args.depth - c.loop-listed.listed) c.loop-listed.asked c.loop-listed.at c.loop-listed.frames.items whole (omega (c.loop-listed-test.false, arith)) c.loop-listed.invariant)
