use Rattle.std.specs.List.{list_all}
use Rattle.std.proofs.Common.{◌≡◌}
use Rattle.elf_mapped.specs.Program.{program_bytes}
use Rattle.core_notes.specs.SegmentNotes.{notes_left, segment_notes}
use Rattle.core_parts.specs.Input.{map_file}
use Rattle.sf_modules.specs.Build.{note_agrees}
use Rattle.sf_modules.proofs.build.notes_agree.Given as goal

abbrev pub invariant-loop-note : goal.invariant-loop-note
invariant-loop-note l =
    list_all (note_agrees (map_file l.memory) (program_bytes l.elf) l.base l.i) (notes_left l.note-iterator) ≡ list_all (note_agrees (map_file l.memory) (program_bytes l.elf) l.base l.i) (segment_notes (program_bytes l.elf) l.i)
