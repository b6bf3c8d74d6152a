use Rattle.core_notes.specs.Listing.{notes_remaining}
use Rattle.core_notes.proofs.Checked.{Counted}
use Rattle.core_notes.proofs.parsing.count_threads.Given as goal

abbrev pub invariant-loop-item : goal.invariant-loop-item
invariant-loop-item l = Counted l.arch l.threads (notes_remaining l.item-iterator) (notes_remaining l.fn.notes)
