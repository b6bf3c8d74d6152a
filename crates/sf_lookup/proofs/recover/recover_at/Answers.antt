use Rattle.std.proofs.Common.{ap, ◌∙◌, None, Some}
use Rattle.sf_decode.specs.View.{table_of}
use Rattle.sf_lookup.proofs.FoundRows.{recovered_of}
use Rattle.sf_lookup.proofs.recover.recover_at.Goals as goal

pub returns-in_err-found : goal.returns-in_err-found
returns-in_err-found g c =
    c.from_residual.ensures ∙ recovered_of (table_of c.args.view.now).functions c.args.pc c.args.regs.now (g.M.Memory.regions c.args.mem.now) None c.in_err-found.ensures.found

pub returns : goal.returns
returns g c =
    ap Some c.recover.ensures ∙ recovered_of (table_of c.args.view.now).functions c.args.pc c.args.regs.now (g.M.Memory.regions c.args.mem.now) (Some c.in_ok-found.found) c.in_ok-found.ensures.found
