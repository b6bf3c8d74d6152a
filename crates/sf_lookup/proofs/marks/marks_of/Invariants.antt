use Rattle.sf_lookup.specs.Mark.{AreMarksUpto}
use Rattle.sf_lookup.proofs.marks.marks_of.Given as goal

abbrev pub invariant-loop-i : goal.invariant-loop-i
invariant-loop-i l = AreMarksUpto l.view l.i 0 l.marks.items
