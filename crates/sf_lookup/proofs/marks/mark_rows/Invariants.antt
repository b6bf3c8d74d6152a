use Rattle.std.proofs.Common.{◌≡◌, drop}
use Rattle.sf_decode.specs.View.{function_of, rows_left}
use Rattle.sf_lookup.specs.Mark.{AreMarksUpto}
use Rattle.sf_lookup.proofs.marks.mark_rows.Given as goal

abbrev pub invariant-loop-number : goal.invariant-loop-number
invariant-loop-number l = (rows_left l.rows ≡ drop l.number (function_of l.view l.i).rows) × AreMarksUpto l.view l.i l.number l.marks.items
