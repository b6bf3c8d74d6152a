use Rattle.std.specs.List.{flat_map}
use Rattle.std.proofs.Common.{◌≡◌}
use Rattle.elf_read.specs.Views.{file}
use Rattle.core_notes.proofs.Numbered.{left_of}
use Rattle.core_notes.specs.SegmentNotes.{segment_notes}
use Rattle.elf_load.specs.BuildId.{build_id, first_id}
use Rattle.elf_load.proofs.build_id.build_id.Given as goal

abbrev pub invariant-loop-i : goal.invariant-loop-i
invariant-loop-i l = first_id (flat_map (segment_notes (file l.elf)) (left_of l.count l.i)) ≡ build_id (file l.elf)
