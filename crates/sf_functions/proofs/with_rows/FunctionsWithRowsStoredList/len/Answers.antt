use Rattle.std.proofs.Common.{ap, arith, length}
use Rattle.sf_functions.proofs.StoredAlone.{stored_len}
use Rattle.sf_functions.proofs.with_rows.FunctionsWithRowsStoredList.len.Goals as goal

pub returns : goal.returns
returns g c = omega (arith, c.len.ensures, c.self.inside.heads.ok.0, stored_len g.F.MayHaveRows.stored_at c.self.inside.heads.items c.self.invariant, ap length c.self.view_is)
