use Rattle.sf_lookup.proofs.Sweeping.{AreNumbers}
use Rattle.sf_lookup.proofs.sweep.numbers_of.Given as goal

abbrev pub invariant-loop-number : goal.invariant-loop-number
invariant-loop-number g l = AreNumbers l.number l.numbers.items
