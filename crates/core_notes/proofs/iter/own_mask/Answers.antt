use Rattle.std.proofs.Common.{ℕ, Some, List, sym, ap, ◌∙◌}
use Rattle.core_notes.specs.Listing.{notes_remaining, whole_notes}
use Rattle.core_notes.specs.Note.{NoteView, note_view}
use Rattle.core_notes.specs.Thread.{own_mask}
use Rattle.core_notes.proofs.Threaded.{at_no_note, mask_ends, mask_goes_on, mask_is_found, mask_with, to_note}
use Rattle.core_notes.proofs.iter.own_mask.Goals as goal

pub returns-then-is_status : goal.returns-then-is_status
returns-then-is_status c =
    let items = notes_remaining c.loop-item.item-iterator in
    let rest = notes_remaining c.next.new.self in
    sym (mask_ends c.args.arch items rest (note_view c.in-Ok.note) c.loop-item.mask (to_note items rest c.in-Some.item c.in-Ok.note c.in-Some.ensures.steps c.in-Ok.is) (sym c.is_status.ensures ∙ c.if-is_status.true))
    ∙ c.loop-item.invariant

pub loop-item-preserved-then-is_mask_note : goal.loop-item-preserved-then-is_mask_note
loop-item-preserved-then-is_mask_note c =
    let items = notes_remaining c.loop-item.item-iterator in
    let rest = notes_remaining c.next.new.self in
    ap (λ (mask : ℕ). mask_with (own_mask c.args.arch (whole_notes rest)) (Some mask)) c.mask_of.ensures
    ∙ sym (mask_goes_on c.args.arch items rest (note_view c.in-Ok.note) c.loop-item.mask _ (to_note items rest c.in-Some.item c.in-Ok.note c.in-Some.ensures.steps c.in-Ok.is)
    (sym c.is_status.ensures ∙ c.if-is_status.false) (sym c.is_mask_note.ensures ∙ c.if-is_mask_note.true))
    ∙ c.loop-item.invariant

pub loop-item-preserved-else-is_mask_note : goal.loop-item-preserved-else-is_mask_note
loop-item-preserved-else-is_mask_note c =
    let items = notes_remaining c.loop-item.item-iterator in
    let rest = notes_remaining c.next.new.self in
    sym (mask_goes_on c.args.arch items rest (note_view c.in-Ok.note) c.loop-item.mask _ (to_note items rest c.in-Some.item c.in-Ok.note c.in-Some.ensures.steps c.in-Ok.is)
    (sym c.is_status.ensures ∙ c.if-is_status.false) (sym c.is_mask_note.ensures ∙ c.if-is_mask_note.false))
    ∙ c.loop-item.invariant

pub loop-item-preserved : goal.loop-item-preserved
loop-item-preserved c =
    let items = notes_remaining c.loop-item.item-iterator in
    let rest = notes_remaining c.next.new.self in
    sym (at_no_note (λ (ns : List NoteView). mask_with (own_mask c.args.arch ns) c.loop-item.mask) items rest c.in-Some.item c.in-Some.ensures.steps c.in_default.not-Ok) ∙ c.loop-item.invariant

pub returns : goal.returns
returns c = sym (mask_is_found c.args.arch (notes_remaining c.loop-item.item-iterator) c.loop-item.mask c.in-None.ensures.steps.0) ∙ c.loop-item.invariant
