use Rattle.std.proofs.Common.{◌≡◌}
use Rattle.std.specs.List.{find}
use Rattle.core_notes.specs.Listing.{notes_remaining, whole_notes}
use Rattle.core_notes.specs.Thread.{is_file_note}
use Rattle.core_notes.proofs.file_note.first_file_note.Given as goal

abbrev pub invariant-loop-item : goal.invariant-loop-item
invariant-loop-item l = find is_file_note (whole_notes (notes_remaining l.item-iterator)) ≡ find is_file_note (whole_notes (notes_remaining l.fn.notes))
