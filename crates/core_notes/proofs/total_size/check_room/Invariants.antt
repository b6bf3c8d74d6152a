use Rattle.std.proofs.Common.{◌≡◌, ◌≤◌, Ok, length}
use Rattle.elf_read.specs.Checking.{each_below}
use Rattle.elf_read.specs.Views.{file}
use Rattle.core_notes.specs.TotalSize.{note_size_below, note_room_check}
use Rattle.core_notes.proofs.total_size.check_room.Given as goal

abbrev pub invariant-loop-i : goal.invariant-loop-i
invariant-loop-i l = (l.taken ≡ note_size_below (file l.elf) l.i) × (l.taken ≤ length (file l.elf)) × (each_below l.i (note_room_check (file l.elf)) ≡ Ok tt)
