use Rattle.std.proofs.Common.{◌≡◌, ◌<◌, ℕ, false, length, get_or, take}
use Rattle.elf_read.specs.Input.{file}
use Rattle.elf_place.specs.Dropped.{is_dropped}
use Rattle.elf_place.proofs.dropped.mark_groups.Given as goal

abbrev pub invariant-loop-group : goal.invariant-loop-group
invariant-loop-group l = (i : ℕ) → i < length l.fn.dropped → get_or l.dropped i false ≡ is_dropped (file l.elf) (take l.group-index l.gone) i
