use Rattle.std.proofs.Common.{◌≡◌, length}
use Rattle.sf_model.specs.declared.machine.Arch.{Arch}
use Rattle.core_notes.specs.Listing.{notes_remaining, whole_notes}
use Rattle.core_notes.specs.Thread.{threads_in}
use Rattle.core_notes.proofs.iter.next_status.Given as goal

abbrev pub invariant-loop-item : goal.invariant-loop-item
invariant-loop-item l = (arch : Arch) → threads_in arch (whole_notes (notes_remaining l.notes)) ≡ threads_in arch (whole_notes (notes_remaining l.initial.notes))

abbrev pub decreases-loop-item : goal.decreases-loop-item
decreases-loop-item l = length (notes_remaining l.notes)
