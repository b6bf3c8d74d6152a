use Rattle.std.proofs.Common.{◌≡◌, ◌<◌, length, ap, sym, ◌∙◌, eqb-true, rules}
use Rattle.core_notes.specs.Listing.{whole_notes}
use Rattle.core_notes.proofs.Listings.{nothing_left, starts_with_cut, starts_with_note}
use Rattle.core_notes.proofs.segment_notes.SegmentNotes.take_next.Goals as goal

pub returns-then-is_empty : goal.returns-then-is_empty
unfolding whole_notes
returns-then-is_empty c =
    let rest = c.args.self.now.rest in
    let none : length rest.bytes.now ≡ 0 = eqb-true (length rest.bytes.now) 0 (sym c.is_empty.ensures ∙ c.if-is_empty.true) in
    (ap whole_notes (nothing_left rest.place rest.bytes.now none), ap whole_notes (nothing_left rest.place rest.bytes.now none))

pub returns-in-Ok : goal.returns-in-Ok
unfolding whole_notes
returns-in-Ok c =
    let rest = c.args.self.now.rest in
    let some : 0 < length rest.bytes.now = search rules in
    ap whole_notes (starts_with_note rest.place rest.bytes.now _ _ some c.in-Ok.ensures)

pub returns-in-Err : goal.returns-in-Err
unfolding whole_notes
returns-in-Err c =
    let rest = c.args.self.now.rest in
    let some : 0 < length rest.bytes.now = search rules in (
      ap whole_notes (starts_with_cut rest.place rest.bytes.now _ some c.in-Err.ensures),
      ap whole_notes (nothing_left c.new-self.result.place c.new-self.result.bytes.now (ap length c.new-self.ensures.bytes)),
    )
