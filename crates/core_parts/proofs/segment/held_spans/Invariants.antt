use Rattle.std.proofs.Common.{◌≡◌, take, map}
use Rattle.core_parts.specs.Heads.{held_span}
use Rattle.core_parts.proofs.segment.held_spans.Given as goal

abbrev pub invariant-loop-head : goal.invariant-loop-head
invariant-loop-head l = l.spans.items ≡ map held_span (take l.head-index l.heads)
