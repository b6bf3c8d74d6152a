use Rattle.std.proofs.Common.{◌≡◌, ◌≤◌, Ok, length}
use Rattle.elf_read.specs.Checking.{each_below}
use Rattle.elf_read.specs.Linked.{linked_file}
use Rattle.core_notes.specs.TotalSize.{note_size_below, note_room_check}
use Rattle.elf_mapped.proofs.notes.have_room.Given as goal

-- the segments so far have room
abbrev pub invariant-loop-note : goal.invariant-loop-note
invariant-loop-note l =
    (l.taken ≡ note_size_below (linked_file l.linked) l.note-index) × (l.taken ≤ length (linked_file l.linked)) × (each_below l.note-index (note_room_check (linked_file l.linked)) ≡ Ok tt)
