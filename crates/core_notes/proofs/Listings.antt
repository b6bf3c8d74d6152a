-- The notes of a run of bytes, one after the other.
use Rattle.std.proofs.Common.{◌≡◌, ℕ, suc, ◌+◌, ◌-◌, ◌<◌, List, [], ◌∷◌, length, drop, Ok, Err, refl, sym, ap, ◌∙◌, arith}
use Rattle.sf_bytes.specs.declared.fault.ByteFault.{ByteFault}
use Rattle.sf_bytes.specs.Cursor.{Cursor}
use Rattle.sf_bytes.proofs.Fields.{passes-past}
use Rattle.sf_bytes.proofs.Skipped.{behind}
use Rattle.core_notes.specs.Note.{NoteView, note_at}
use Rattle.core_notes.specs.Listing.{NoteItem, notes_after, notes_from}
use Rattle.core_notes.proofs.OneNote.{SomeBytes, note_passes, note_takes}

pub notes-nil : (skipped place : ℕ) → notes_after skipped place [] ≡ []
unfolding notes_after
notes-nil skipped place = refl

notes-suc : (n place b : ℕ) (bs : List ℕ) → notes_after (suc n) place (b ∷ bs) ≡ notes_after n (place + 1) bs
unfolding notes_after
notes-suc n place b bs = refl

-- what is after the first byte of a note
one_passed : (place b : ℕ) (bs : List ℕ) (after : Cursor) (s : SomeBytes (record { place = place; left = b ∷ bs }) after)
    → after ≡ record { place = place + 1 + (length s.run - 1); left = drop (length s.run - 1) bs }
one_passed place b bs after s =
    let at : Cursor = record { place = place; left = b ∷ bs } in
    let one : length s.run ≡ suc (length s.run - 1) = omega (s.some, arith) in
    let on : place + length s.run ≡ place + 1 + (length s.run - 1) = omega (s.some, arith) in
    sym (passes-past s.run at after s.passes)
    ∙ ap (λ (n : ℕ). record { place = place + length s.run; left = drop n (b ∷ bs) }) one
    ∙ ap (λ (p : ℕ). record { place = p; left = drop (length s.run - 1) bs }) on

pub starts_with_note : (place : ℕ) (bytes : List ℕ) (n : NoteView) (after : Cursor) → 0 < length bytes → note_at (record { place = place; left = bytes }) ≡ Ok (n, after)
    → notes_after 0 place bytes ≡ Ok n ∷ notes_from after
unfolding notes_after
starts_with_note place [] n after some e = absurd (omega (some, arith))
starts_with_note place (b ∷ bs) n after some e =
    let at : Cursor = record { place = place; left = b ∷ bs } in
    let s : SomeBytes at after = note_passes n at after (note_takes at n after e) in
    rw e (ap (λ (items : List NoteItem). Ok n ∷ items) (behind notes_after notes-nil notes-suc (length s.run - 1) (place + 1) bs after (one_passed place b bs after s)))

pub starts_with_cut : (place : ℕ) (bytes : List ℕ) (f : ByteFault) → 0 < length bytes → note_at (record { place = place; left = bytes }) ≡ Err f → notes_after 0 place bytes ≡ Err place ∷ []
unfolding notes_after
starts_with_cut place [] f some e = absurd (omega (some, arith))
starts_with_cut place (b ∷ bs) f some e = rw e refl

pub nothing_left : (place : ℕ) (bytes : List ℕ) → length bytes ≡ 0 → notes_after 0 place bytes ≡ []
nothing_left place [] e = notes-nil 0 place
nothing_left place (b ∷ bs) e = absurd (omega (e, arith))
