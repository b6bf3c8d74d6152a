use Rattle.std.proofs.Common.{◌≡◌, take, map}
use Rattle.core_parts.specs.Read.{eight_span}
use Rattle.core_parts.proofs.memory.eight_spans.Given as goal

abbrev pub invariant-loop-block : goal.invariant-loop-block
invariant-loop-block l = l.spans.items ≡ map eight_span (take l.block-index l.blocks)
