use Rattle.std.proofs.Common.{◌≡◌, ◌∙◌, ◌++◌, ◌+◌, List, Option, length, sym, ap, arith, eqb-true}
use Rattle.elf_read.specs.declared.view.Elf.{Elf}
use Rattle.elf_read.specs.Views.{file}
use Rattle.sf_bytes.specs.Cursor.{cursor}
use Rattle.core_notes.specs.Listing.{NoteItem, items_from, notes_from}
use Rattle.core_notes.proofs.Listings.{nothing_left}
use Rattle.core_notes.proofs.Segmented.{ends, goes_on, no_file}
use Rattle.core_notes.proofs.notes.Notes.go_on.Goals as goal

pub note_bytes-self-requires : goal.note_bytes-self-requires
note_bytes-self-requires c = c.in-Some.elf.small

pub loop-elf-preserved : goal.loop-elf-preserved
loop-elf-preserved c =
    let n = c.loop-elf.self in
    let is = c.loop-elf.invariant.0 in
    let none : length n.rest.bytes.now ≡ 0 = eqb-true (length n.rest.bytes.now) 0 (sym c.is_empty.ensures ∙ c.loop-elf-test.true) in (
      is,
      ap (λ (o : Option Elf). notes_from (cursor c.note_bytes-self.result) ++ items_from o (n.segment + 1)) is
          ∙ goes_on (file c.in-Some.elf) n.rest.place n.segment n.rest.bytes.now (cursor c.note_bytes-self.result) none (omega (c.if-self-segments.true, c.segments.ensures, arith)) c.note_bytes-self.ensures
          ∙ ap (λ (o : Option Elf). notes_from (cursor n.rest) ++ items_from o n.segment) (sym is)
          ∙ c.loop-elf.invariant.1,
    )

pub returns-else-self-segments-clause-all : goal.returns-else-self-segments-clause-all
returns-else-self-segments-clause-all c = λ none.
    ap (λ (o : Option Elf). notes_from (cursor c.loop-elf.self.rest) ++ items_from o c.loop-elf.self.segment) c.loop-elf.invariant.0
    ∙ ends (file c.in-Some.elf) c.loop-elf.self.rest.place c.loop-elf.self.segment c.loop-elf.self.rest.bytes.now none (omega (c.if-self-segments.false, c.segments.ensures, arith))

pub returns-in_default-clause-all : goal.returns-in_default-clause-all
returns-in_default-clause-all c = λ none.
    let at = c.args.self.now in
    ap (λ (items : List NoteItem). items ++ items_from at.elf at.segment) (nothing_left at.rest.place at.rest.bytes.now none)
    ∙ no_file at.elf at.segment c.in_default.not-Some
