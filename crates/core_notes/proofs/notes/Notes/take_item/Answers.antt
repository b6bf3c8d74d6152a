use Rattle.std.specs.Prelude.{◌++◌}
use Rattle.std.proofs.Common.{◌<◌, ◌∷◌, List, Err, length, sym, ap, ◌∙◌, rules}
use Rattle.core_notes.specs.Listing.{NoteItem, items_from}
use Rattle.core_notes.proofs.Listings.{nothing_left, starts_with_cut, starts_with_note}
use Rattle.core_notes.proofs.notes.Notes.take_item.Goals as goal

pub returns-in-Ok : goal.returns-in-Ok
returns-in-Ok c =
    let at = c.go_on.new.self in
    let some : 0 < length at.rest.bytes.now = search rules in
    sym c.go_on.ensures.same ∙ ap (λ (items : List NoteItem). items ++ items_from at.elf at.segment) (starts_with_note at.rest.place at.rest.bytes.now _ _ some c.in-Ok.ensures)

pub returns-in-Err : goal.returns-in-Err
returns-in-Err c =
    let at = c.go_on.new.self in
    let some : 0 < length at.rest.bytes.now = search rules in
    let later = items_from at.elf at.segment in
    sym c.go_on.ensures.same ∙ ap (λ (items : List NoteItem). items ++ later) (starts_with_cut at.rest.place at.rest.bytes.now _ some c.in-Err.ensures)
    ∙ ap (λ (items : List NoteItem). Err at.rest.place ∷ (items ++ later)) (sym (nothing_left c.new-self.result.place c.new-self.result.bytes.now (ap length c.new-self.ensures.bytes)))
