use Rattle.std.proofs.Common.{◌≡◌, length}
use Rattle.sf_lookup.specs.Sweep.{IsAt}
use Rattle.sf_lookup.proofs.sweep.Sweep.take_begun.Given as goal

abbrev pub invariant-loop-self : goal.invariant-loop-self
invariant-loop-self g l = IsAt l.point l.self × (l.self.spans.now ≡ l.initial.self.spans.now)

abbrev pub decreases-loop-self : goal.decreases-loop-self
decreases-loop-self g l = length l.self.later.now
