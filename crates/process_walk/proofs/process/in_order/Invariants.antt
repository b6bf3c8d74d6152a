use Rattle.std.proofs.Common.{◌≡◌, map, take}
use Rattle.process_walk.specs.Process.{given_spans}
use Rattle.process_walk.proofs.process.in_order.Given as goal

abbrev pub invariant-loop-given : goal.invariant-loop-given
invariant-loop-given l = map given_spans l.ordered.items ≡ map (λ s. s.now) (take l.given-index l.signals)
