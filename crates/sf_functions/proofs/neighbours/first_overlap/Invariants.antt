use Rattle.std.proofs.Common.{◌≡◌, ◌∷◌, drop}
use Rattle.sf_functions.specs.Neighbours.{first_overlap}
use Rattle.sf_functions.proofs.neighbours.first_overlap.Given as goal

abbrev pub invariant-loop-function : goal.invariant-loop-function
invariant-loop-function g l =
    first_overlap g.F.HasStart.first_address g.F.HasSize.size_of l.fn.ordered
    ≡ first_overlap g.F.HasStart.first_address g.F.HasSize.size_of (l.before ∷ drop l.function-index l.later)
