use Rattle.std.proofs.Common.{◌≡◌}
use Rattle.elf_read.specs.Views.{file}
use Rattle.core_notes.specs.SegmentNotes.{notes_left, segment_notes}
use Rattle.elf_load.specs.BuildId.{first_id}
use Rattle.elf_load.proofs.build_id.segment_id.Given as goal

abbrev pub invariant-loop-note : goal.invariant-loop-note
invariant-loop-note l = first_id (notes_left l.note-iterator) ≡ first_id (segment_notes (file l.elf) l.i)
