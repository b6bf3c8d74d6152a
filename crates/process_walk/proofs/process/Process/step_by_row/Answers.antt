use Rattle.sf_model.specs.Walk.{recover_by}
use Rattle.sf_modules.specs.Found.{found_in}
use Rattle.process_walk.specs.Process.{entries_in, is_unmasked, modules_in}
use Rattle.process_walk.proofs.Unmasked.{as_made, made_again}
use Rattle.process_walk.proofs.process.Process.step_by_row.Goals as goal

pub returns-then-stops_unsigned : goal.returns-then-stops_unsigned
returns-then-stops_unsigned g c =
    let p = c.args.self.now in
    let rows = recover_by (found_in (entries_in p) (modules_in p)) (g.M.Memory.regions c.args.mem.now) in
    let state = c.args.state.now in
    made_again (is_unmasked p) rows c.args.mask state.asked state.at c.step-next.result.0 c.step-next.result.1 c.step.result c.step-next.ensures c.if-stops_unsigned.ensures c.step.ensures

pub returns : goal.returns
returns g c =
    let p = c.args.self.now in
    let rows = recover_by (found_in (entries_in p) (modules_in p)) (g.M.Memory.regions c.args.mem.now) in
    let state = c.args.state.now in
    as_made (is_unmasked p) rows c.args.mask state.asked state.at c.step-next.result.0 c.step-next.result.1 c.step-next.ensures c.if-stops_unsigned.ensures
