use Rattle.std.proofs.Common.{◌≡◌, take}
use Rattle.sf_decode.specs.View.{table_of}
use Rattle.sf_c.specs.MostRows.{most_rows}
use Rattle.sf_c.proofs.rows.most_rows.Given as goal

abbrev pub invariant-loop-i : goal.invariant-loop-i
invariant-loop-i l = l.most ≡ most_rows (take l.i (table_of l.view).functions)
