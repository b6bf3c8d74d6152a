use Rattle.std.proofs.Common.{◌≡◌, take, map}
use Rattle.core_parts.specs.Read.{block_cursor}
use Rattle.core_parts.specs.Whole.{part_cursor}
use Rattle.core_parts.proofs.memory.blocks_of.Given as goal

abbrev pub invariant-loop-part : goal.invariant-loop-part
invariant-loop-part l = map block_cursor l.blocks.items ≡ map part_cursor (take l.part-index l.parts)
