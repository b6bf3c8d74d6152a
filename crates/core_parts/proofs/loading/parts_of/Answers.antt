use Rattle.std.proofs.lemmas.Result.{err_from_is_err_and}
use Rattle.sf_base.proofs.ReadingOn.{stops_later}
use Rattle.core_parts.proofs.loading.parts_of.Goals as goal

pub returns-in_err-read_windows-clause-stops : goal.returns-in_err-read_windows-clause-stops
returns-in_err-read_windows-clause-stops g c =
    let p = err_from_is_err_and c.from_residual-in_err-read_windows.result c.from_residual-in_err-read_windows.ensures.1 in
    rw (p.1, p.2) (stops_later c.in_ok-read_planned.ensures.open c.in_err-read_windows.ensures.stops)
