use Rattle.std.specs.List.{position_or_len}
use Rattle.std.proofs.Common.{◌≤◌, ◌*◌, ◌==◌}
use Rattle.elf_read.proofs.first_zero.len_without_zero.Given as goal

abbrev pub invariant-loop-index : goal.invariant-loop-index
invariant-loop-index l = l.index * 64 ≤ position_or_len (λ b. b == 0) l.bytes
