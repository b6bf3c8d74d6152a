use Rattle.std.proofs.Common.{◌≡◌, ◌≤◌, Ok, length}
use Rattle.elf_read.specs.Checking.{each_below}
use Rattle.elf_read.specs.TotalSize.{room_check, read_size_below}
use Rattle.elf_read.proofs.total_size.check_room.Given as goal

abbrev pub invariant-loop-i : goal.invariant-loop-i
invariant-loop-i l = (l.taken ≡ read_size_below l.file l.i) × (l.taken ≤ length l.file) × (each_below l.i (room_check l.file) ≡ Ok tt)
