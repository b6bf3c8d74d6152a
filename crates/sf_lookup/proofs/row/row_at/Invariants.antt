use Rattle.std.proofs.Common.{◌≡◌, ◌+◌, None}
use Rattle.sf_decode.specs.View.{rows_left}
use Rattle.sf_lookup.specs.Steps.{rows_read}
use Rattle.sf_lookup.proofs.Rows.{latest}
use Rattle.sf_lookup.proofs.row.row_at.Given as goal

abbrev pub invariant-loop-row : goal.invariant-loop-row
invariant-loop-row g l =
    (latest l.offset l.found (rows_left l.row-iterator) ≡ latest l.offset None (rows_left l.fn.rows))
    × (l.steps + rows_read l.offset (rows_left l.row-iterator) ≡ l.fn.steps + rows_read l.offset (rows_left l.fn.rows))
