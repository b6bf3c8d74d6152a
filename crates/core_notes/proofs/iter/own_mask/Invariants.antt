use Rattle.std.proofs.Common.{◌≡◌}
use Rattle.core_notes.specs.Listing.{notes_remaining, whole_notes}
use Rattle.core_notes.specs.Thread.{own_mask}
use Rattle.core_notes.proofs.Threaded.{mask_with}
use Rattle.core_notes.proofs.iter.own_mask.Given as goal

abbrev pub invariant-loop-item : goal.invariant-loop-item
invariant-loop-item l = mask_with (own_mask l.arch (whole_notes (notes_remaining l.item-iterator))) l.mask ≡ own_mask l.arch (whole_notes (notes_remaining l.fn.notes))
