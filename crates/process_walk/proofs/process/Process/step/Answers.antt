use Rattle.sf_model.specs.Walk.{recover_by}
use Rattle.sf_modules.specs.Found.{found_in}
use Rattle.process_walk.specs.Masks.{recover_unmasked}
use Rattle.process_walk.specs.Process.{entries_in, is_unmasked, modules_in, signals_in}
use Rattle.process_walk.specs.Signals.{signal_at}
use Rattle.process_walk.proofs.Callers.{with_row, without_row}
use Rattle.process_walk.proofs.process.Process.step.Goals as goal

pub returns-then-is_outside : goal.returns-then-is_outside
returns-then-is_outside g c =
    let p = c.args.self.now in
    let memory = g.M.Memory.regions c.args.mem.now in
    let state = c.args.state.now in
    without_row (recover_unmasked (is_unmasked p) c.args.mask (recover_by (found_in (entries_in p) (modules_in p)) memory) state.asked state.at.regs)
    (signal_at (entries_in p) (modules_in p) (signals_in p) state.asked) c.signal_at.result c.args.mask memory state
    c.step_by_row-next.result c.step_without_row.result c.step_by_row-next.ensures c.if-is_outside.ensures c.signal_at.ensures c.step_without_row.ensures

pub returns : goal.returns
returns g c =
    let p = c.args.self.now in
    let memory = g.M.Memory.regions c.args.mem.now in
    let state = c.args.state.now in
    with_row (recover_unmasked (is_unmasked p) c.args.mask (recover_by (found_in (entries_in p) (modules_in p)) memory) state.asked state.at.regs)
    (signal_at (entries_in p) (modules_in p) (signals_in p) state.asked) c.args.mask memory state
    c.step_by_row-next.result c.to_caller.result c.step_by_row-next.ensures c.if-is_outside.ensures c.to_caller.ensures
