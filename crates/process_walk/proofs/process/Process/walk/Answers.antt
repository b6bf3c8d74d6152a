use Rattle.std.proofs.Common.{◌-◌, arith}
use Rattle.sf_model.specs.Walk.{recover_by}
use Rattle.core_walk.specs.Walk.{thread_state}
use Rattle.sf_modules.specs.Found.{found_in}
use Rattle.process_walk.specs.Masks.{recover_unmasked}
use Rattle.process_walk.specs.Process.{entries_in, is_unmasked, modules_in, signals_in}
use Rattle.process_walk.specs.Signals.{signal_at}
use Rattle.process_walk.specs.Step.{step_at}
use Rattle.process_walk.specs.Walk.{process_walk}
use Rattle.process_walk.proofs.Frames.{ends, goes_on, starts, stops}
use Rattle.process_walk.proofs.process.Process.walk.Goals as goal

pub loop-listed-init : goal.loop-listed-init
loop-listed-init g c =
    let p = c.args.self.now in
    let memory = g.M.Memory.regions c.args.mem.now in
    let rows = recover_unmasked (is_unmasked p) c.args.thread.now.mask (recover_by (found_in (entries_in p) (modules_in p)) memory) in
    let signals = signal_at (entries_in p) (modules_in p) (signals_in p) in
    starts rows signals (thread_state c.args.thread.now) memory c.args.depth (c.args.depth - 0) c.resumed-state.result c.new-frames.result.items (omega arith) c.new-frames.ensures.items c.resumed-state.ensures

pub loop-listed-preserved : goal.loop-listed-preserved
loop-listed-preserved g c =
    let p = c.args.self.now in
    let memory = g.M.Memory.regions c.args.mem.now in
    let rows = recover_unmasked (is_unmasked p) c.args.thread.now.mask (recover_by (found_in (entries_in p) (modules_in p)) memory) in
    let signals = signal_at (entries_in p) (modules_in p) (signals_in p) in
    goes_on (step_at rows signals c.args.thread.now.mask memory) c.args.depth c.loop-listed.listed c.loop-listed.state c.in-Ok.caller c.step-next.result c.loop-listed.frames.items c.push.new.self.items
    (process_walk rows signals (thread_state c.args.thread.now) memory c.args.depth) c.loop-listed-test.true c.step-next.ensures c.in-Ok.is c.in_ok-push.ensures.items c.loop-listed.invariant

pub returns-in-Err : goal.returns-in-Err
returns-in-Err g c =
    let p = c.args.self.now in
    let memory = g.M.Memory.regions c.args.mem.now in
    let rows = recover_unmasked (is_unmasked p) c.args.thread.now.mask (recover_by (found_in (entries_in p) (modules_in p)) memory) in
    let signals = signal_at (entries_in p) (modules_in p) (signals_in p) in
    stops (step_at rows signals c.args.thread.now.mask memory) c.args.depth c.loop-listed.listed c.loop-listed.state c.in-Err.stop c.step-next.result c.loop-listed.frames.items c.push.new.self.items
    (process_walk rows signals (thread_state c.args.thread.now) memory c.args.depth) c.loop-listed-test.true c.step-next.ensures c.in-Err.is c.in_ok-push.ensures.items c.loop-listed.invariant

pub returns : goal.returns
returns g c =
    let p = c.args.self.now in
    let memory = g.M.Memory.regions c.args.mem.now in
    let rows = recover_unmasked (is_unmasked p) c.args.thread.now.mask (recover_by (found_in (entries_in p) (modules_in p)) memory) in
    let signals = signal_at (entries_in p) (modules_in p) (signals_in p) in
    ends (step_at rows signals c.args.thread.now.mask memory) (c.args.depth - c.loop-listed.listed) c.loop-listed.state c.loop-listed.frames.items
    (process_walk rows signals (thread_state c.args.thread.now) memory c.args.depth) (omega (c.loop-listed-test.false, arith)) c.loop-listed.invariant
