use Rattle.std.proofs.Common.{◌∙◌, sym}
use Rattle.core_notes.specs.Listing.{notes_remaining}
use Rattle.core_notes.specs.Note.{note_view}
use Rattle.core_notes.specs.Thread.{threads_in}
use Rattle.core_notes.proofs.Threaded.{at_no_note, other_is_none, status_is_thread, threads_end, to_note}
use Rattle.core_notes.proofs.iter.next_status.Goals as goal

pub returns-then-is_status : goal.returns-then-is_status
returns-then-is_status c = λ arch.
    let items = notes_remaining c.loop-item.notes in
    let rest = notes_remaining c.next.new.self in
    sym (c.loop-item.invariant arch)
    ∙ status_is_thread arch items rest (note_view c.in-Ok.note) (to_note items rest c.in-Some.item c.in-Ok.note c.in-Some.ensures.steps c.in-Ok.is) (sym c.is_status.ensures ∙ c.if-is_status.true)

pub loop-item-preserved-else-is_status : goal.loop-item-preserved-else-is_status
loop-item-preserved-else-is_status c = λ arch.
    let items = notes_remaining c.loop-item.notes in
    let rest = notes_remaining c.next.new.self in
    sym (other_is_none arch items rest (note_view c.in-Ok.note) (to_note items rest c.in-Some.item c.in-Ok.note c.in-Some.ensures.steps c.in-Ok.is) (sym c.is_status.ensures ∙ c.if-is_status.false))
    ∙ c.loop-item.invariant arch

pub loop-item-preserved : goal.loop-item-preserved
loop-item-preserved c = λ arch.
    sym (at_no_note (threads_in arch) (notes_remaining c.loop-item.notes) (notes_remaining c.next.new.self) c.in-Some.item c.in-Some.ensures.steps c.in_default-item.not-Ok) ∙ c.loop-item.invariant arch

pub returns : goal.returns
returns c = λ arch. (
  sym (c.loop-item.invariant arch) ∙ threads_end arch (notes_remaining c.loop-item.notes) c.in_default.ensures.steps.0,
  threads_end arch (notes_remaining c.next.new.self) c.in_default.ensures.steps.1,
)
