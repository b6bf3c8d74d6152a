use Rattle.std.specs.List.{range_with_len}
use Rattle.std.proofs.Common.{◌≡◌, map}
use Rattle.core_parts.specs.Table.{head_at}
use Rattle.core_parts.proofs.table.heads_at.Given as goal

abbrev pub invariant-loop-i : goal.invariant-loop-i
invariant-loop-i l = l.heads.items ≡ map (head_at l.table) (range_with_len 0 l.i)
