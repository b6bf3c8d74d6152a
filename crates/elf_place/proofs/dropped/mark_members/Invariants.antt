use Rattle.std.proofs.Common.{◌≡◌, ◌<◌, ◌||◌, ℕ, false, length, get_or}
use Rattle.elf_read.specs.Input.{file}
use Rattle.elf_place.specs.Dropped.{is_member}
use Rattle.elf_place.proofs.dropped.mark_members.Given as goal

abbrev pub invariant-loop-k : goal.invariant-loop-k
invariant-loop-k l = (i : ℕ) → i < length l.fn.dropped → get_or l.dropped i false ≡ (get_or l.fn.dropped i false || is_member (file l.elf) l.group l.k i)
