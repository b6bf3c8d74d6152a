use Rattle.std.specs.List.{find}
use Rattle.std.specs.Option.{option_map}
use Rattle.std.proofs.Common.{sym, ap, ◌∙◌}
use Rattle.core_notes.specs.Listing.{notes_remaining}
use Rattle.core_notes.specs.Note.{NoteView, note_view}
use Rattle.core_notes.specs.Thread.{is_file_note}
use Rattle.core_notes.proofs.Threaded.{at_end, at_no_note, found_note, to_note}
use Rattle.core_notes.proofs.file_note.first_file_note.Goals as goal

pub returns-then-is_file_note : goal.returns-then-is_file_note
returns-then-is_file_note c =
    let items = notes_remaining c.loop-item.item-iterator in
    let rest = notes_remaining c.next.new.self in
    ap (option_map (λ (n : NoteView). n.descriptor))
    (sym (found_note is_file_note items rest (note_view c.in-Ok.note) _ (to_note items rest c.in-Some.item c.in-Ok.note c.in-Some.ensures.steps c.in-Ok.is) (sym c.is_file_note.ensures ∙ c.if-is_file_note.true))
    ∙ c.loop-item.invariant)

pub loop-item-preserved-else-is_file_note : goal.loop-item-preserved-else-is_file_note
loop-item-preserved-else-is_file_note c =
    let items = notes_remaining c.loop-item.item-iterator in
    let rest = notes_remaining c.next.new.self in
    sym (found_note is_file_note items rest (note_view c.in-Ok.note) _ (to_note items rest c.in-Some.item c.in-Ok.note c.in-Some.ensures.steps c.in-Ok.is) (sym c.is_file_note.ensures ∙ c.if-is_file_note.false))
    ∙ c.loop-item.invariant

pub loop-item-preserved : goal.loop-item-preserved
loop-item-preserved c =
    sym (at_no_note (find is_file_note) (notes_remaining c.loop-item.item-iterator) (notes_remaining c.next.new.self) c.in-Some.item c.in-Some.ensures.steps c.in_default.not-Ok) ∙ c.loop-item.invariant

pub returns : goal.returns
returns c =
    ap (option_map (λ (n : NoteView). n.descriptor)) (sym (at_end (find is_file_note) (notes_remaining c.loop-item.item-iterator) c.in-None.ensures.steps.0) ∙ c.loop-item.invariant)
