use Rattle.std.proofs.Common.{◌≡◌, take, map}
use Rattle.core_parts.specs.Read.{first_span}
use Rattle.core_parts.proofs.memory.first_spans.Given as goal

abbrev pub invariant-loop-block : goal.invariant-loop-block
invariant-loop-block l = l.spans.items ≡ map first_span (take l.block-index l.blocks)
