use Rattle.std.proofs.Common.{◌-◌}
use Rattle.sf_model.specs.Walk.{recover_by}
use Rattle.core_walk.specs.Walk.{thread_state}
use Rattle.sf_modules.specs.Found.{found_in}
use Rattle.process_walk.specs.Masks.{recover_unmasked}
use Rattle.process_walk.specs.Process.{entries_in, is_unmasked, modules_in, signals_in}
use Rattle.process_walk.specs.Signals.{signal_at}
use Rattle.process_walk.specs.Step.{step_at}
use Rattle.process_walk.specs.Walk.{process_walk}
use Rattle.process_walk.proofs.Frames.{IsWalk}
use Rattle.process_walk.proofs.process.Process.walk.Given as goal

abbrev pub invariant-loop-listed : goal.invariant-loop-listed
invariant-loop-listed g l =
    let memory = g.M.Memory.regions l.mem in
    let rows = recover_unmasked (is_unmasked l.self) l.thread.mask (recover_by (found_in (entries_in l.self) (modules_in l.self)) memory) in
    let signals = signal_at (entries_in l.self) (modules_in l.self) (signals_in l.self) in
    IsWalk (step_at rows signals l.thread.mask memory) (l.depth - l.listed) l.state l.frames.items (process_walk rows signals (thread_state l.thread) memory l.depth)
