use Rattle.std.proofs.Common.{◌≡◌, ◌<◌, ◌^◌, ◌-◌}
use Rattle.sf_decode.specs.Row.{rows_check}
use Rattle.sf_decode.proofs.row.check_each_row.Given as goal

abbrev pub invariant-loop-row : goal.invariant-loop-row
invariant-loop-row l =
    (l.place < 2 ^ 33)
    × (rows_check l.arch l.rows l.origin l.start_width l.place l.least (l.count - l._row) ≡ rows_check l.arch l.rows l.origin l.start_width l.first 0 l.count)
