use Rattle.std.proofs.Common.{◌≡◌}
use Rattle.std.specs.BinaryHeap.{heap_len}
use Rattle.sf_lookup.specs.Sweep.{AllLater, IsAt}
use Rattle.sf_lookup.proofs.sweep.Sweep.first_begun.Given as goal

abbrev pub invariant-loop-top : goal.invariant-loop-top
invariant-loop-top g l = IsAt l.point l.self × AllLater l.point l.self × (l.self.spans.now ≡ l.initial.self.spans.now)

abbrev pub decreases-loop-top : goal.decreases-loop-top
decreases-loop-top g l = heap_len l.self.begun
