-- The notes that are read are those that the segments' bytes are.
use Rattle.std.specs.Prelude.{◌++◌}
use Rattle.std.specs.List.{flat_map}
use Rattle.std.proofs.Common.{◌≡◌, ℕ, ◌<◌, Bool, true, false, cond, List, [], ◌∷◌, length, Ok, Err, refl, sym, ap, ◌∙◌, arith}
use Rattle.sf_bytes.specs.Cursor.{Cursor, Read}
use Rattle.sf_bytes.proofs.Fields.{passes-within}
use Rattle.core_notes.specs.Note.{NoteView, note_at}
use Rattle.core_notes.specs.Listing.{AreAllNotes, AreNotes, AreSegmentNotes, NoteItem, NotesStand, notes_from, segment_cursor, segment_items, whole_notes}
use Rattle.core_notes.specs.Segment.{SegmentView, holds_notes}
use Rattle.core_notes.proofs.OneNote.{SomeBytes, note_again, note_passes, note_takes}
use Rattle.core_notes.proofs.Listings.{notes-nil, nothing_left, starts_with_cut, starts_with_note}

-- notes, none of which is cut
abbrev pub all_whole : List NoteView → List NoteItem
all_whole [] = []
all_whole (n ∷ ns) = Ok n ∷ all_whole ns

pub all_whole-append : (xs ys : List NoteView) → all_whole (xs ++ ys) ≡ all_whole xs ++ all_whole ys
all_whole-append [] ys = refl
all_whole-append (x ∷ xs) ys = ap (λ (items : List NoteItem). Ok x ∷ items) (all_whole-append xs ys)

pub whole-all : (ns : List NoteView) → whole_notes (all_whole ns) ≡ ns
unfolding whole_notes
whole-all [] = refl
whole-all (n ∷ ns) = ap (λ (xs : List NoteView). n ∷ xs) (whole-all ns)

-- ---- from the bytes to what is read
some_left : (from to : Cursor) → SomeBytes from to → 0 < length from.left
some_left from to s = omega (s.some, passes-within s.run from to s.passes, arith)

read_all : (ns : List NoteView) (from end : Cursor) → NotesStand ns from end → end.left ≡ [] → notes_from from ≡ all_whole ns
read_all [] from end is none = nothing_left from.place from.left (ap length (sym (ap (λ (c : Cursor). c.left) is) ∙ none))
read_all (n ∷ ns) from end (after, first, later) none =
    starts_with_note from.place from.left n after (some_left from after (note_passes n from after first)) (note_again from n after first)
    ∙ ap (λ (items : List NoteItem). Ok n ∷ items) (read_all ns after end later none)

read_segment : (b : Bool) (s : SegmentView) (ns : List NoteView) → AreSegmentNotes b s ns → cond b (notes_from (segment_cursor s)) [] ≡ all_whole ns
read_segment true s ns h = read_all ns (segment_cursor s) h.end h.stand h.nothing_left
read_segment false s ns h = sym (ap all_whole h)

pub notes_are_read : (ss : List SegmentView) (ns : List NoteView) → AreNotes ss ns → flat_map segment_items ss ≡ all_whole ns
notes_are_read [] ns h = sym (ap all_whole h)
notes_are_read (s ∷ ss) ns (here, later, all, first, others) =
    ap (λ (items : List NoteItem). items ++ flat_map segment_items ss) (read_segment (holds_notes s) s here first)
    ∙ ap (λ (items : List NoteItem). all_whole here ++ items) (notes_are_read ss later others) ∙ sym (all_whole-append here later) ∙ ap all_whole (sym all)

-- ---- from what is read to the bytes
-- no note is cut
abbrev pub NoneCut : List NoteItem → Type 0
NoneCut [] = Unit {0}
NoneCut (Ok n ∷ items) = NoneCut items
NoneCut (Err place ∷ items) = ⊥

none_cut_here : (xs ys : List NoteItem) → NoneCut (xs ++ ys) → NoneCut xs
none_cut_here [] ys h = tt
none_cut_here (Ok n ∷ xs) ys h = none_cut_here xs ys h
none_cut_here (Err place ∷ xs) ys h = h

none_cut_later : (xs ys : List NoteItem) → NoneCut (xs ++ ys) → NoneCut ys
none_cut_later [] ys h = h
none_cut_later (Ok n ∷ xs) ys h = none_cut_later xs ys h
none_cut_later (Err place ∷ xs) ys h = absurd h

pub none_cut_whole : (items : List NoteItem) → NoneCut items → items ≡ all_whole (whole_notes items)
unfolding whole_notes
none_cut_whole [] h = refl
none_cut_whole (Ok n ∷ items) h = ap (λ (xs : List NoteItem). Ok n ∷ xs) (none_cut_whole items h)
none_cut_whole (Err place ∷ items) h = absurd h

whole-append : (xs ys : List NoteItem) → whole_notes (xs ++ ys) ≡ whole_notes xs ++ whole_notes ys
unfolding whole_notes
whole-append [] ys = refl
whole-append (Ok n ∷ xs) ys = ap (λ (ns : List NoteView). n ∷ ns) (whole-append xs ys)
whole-append (Err place ∷ xs) ys = whole-append xs ys

-- the first note of what is read
read_first : (n : NoteView) (ns : List NoteView) (place : ℕ) (bytes : List ℕ) (read : Read NoteView) → 0 < length bytes → note_at (record { place = place; left = bytes }) ≡ read
    → notes_from (record { place = place; left = bytes }) ≡ Ok n ∷ all_whole ns
    → (after : Cursor) × (note_at (record { place = place; left = bytes }) ≡ Ok (n, after)) × (notes_from after ≡ all_whole ns)
read_first n ns place bytes (Ok (m, after)) some r e =
    let both : Ok m ∷ notes_from after ≡ Ok n ∷ all_whole ns = sym (starts_with_note place bytes m after some r) ∙ e in
    let same : m ≡ n = cc in
    let rest : notes_from after ≡ all_whole ns = cc in
    (after, r ∙ ap (λ (x : NoteView). Ok (x, after)) same, rest)
read_first n ns place bytes (Err f) some r e = absurd (let differ : Err place ∷ [] ≡ Ok n ∷ all_whole ns = sym (starts_with_cut place bytes f some r) ∙ e in cc)

nothing_read : (place : ℕ) (bytes : List ℕ) (read : Read NoteView) → note_at (record { place = place; left = bytes }) ≡ read → notes_from (record { place = place; left = bytes }) ≡ [] → bytes ≡ []
nothing_read place [] read r e = refl
nothing_read place (b ∷ bs) (Ok (n, after)) r e = absurd (let differ : Ok n ∷ notes_from after ≡ [] = sym (starts_with_note place (b ∷ bs) n after (omega arith) r) ∙ e in cc)
nothing_read place (b ∷ bs) (Err f) r e = absurd (let differ : Err place ∷ [] ≡ [] = sym (starts_with_cut place (b ∷ bs) f (omega arith) r) ∙ e in cc)

bytes_left : (n : NoteView) (ns : List NoteView) (place : ℕ) (bytes : List ℕ) → notes_from (record { place = place; left = bytes }) ≡ Ok n ∷ all_whole ns → 0 < length bytes
bytes_left n ns place [] e = absurd (let differ : [] ≡ Ok n ∷ all_whole ns = sym (notes-nil 0 place) ∙ e in cc)
bytes_left n ns place (b ∷ bs) e = omega arith

all_stand : (ns : List NoteView) (from : Cursor) → notes_from from ≡ all_whole ns → AreAllNotes ns from
all_stand [] from e = record { end = from; stand = refl; nothing_left = nothing_read from.place from.left (note_at from) refl e }
all_stand (n ∷ ns) from e =
    let first = read_first n ns from.place from.left (note_at from) (bytes_left n ns from.place from.left e) refl e in
    let others = all_stand ns first.0 first.2 in
    record { end = others.end; stand = (first.0, note_takes from n first.0 first.1, others.stand); nothing_left = others.nothing_left }

segment_stands : (b : Bool) (s : SegmentView) → NoneCut (cond b (notes_from (segment_cursor s)) []) → AreSegmentNotes b s (whole_notes (cond b (notes_from (segment_cursor s)) []))
unfolding whole_notes
segment_stands true s h = all_stand (whole_notes (notes_from (segment_cursor s))) (segment_cursor s) (none_cut_whole (notes_from (segment_cursor s)) h)
segment_stands false s h = refl

pub read_are_notes : (ss : List SegmentView) → NoneCut (flat_map segment_items ss) → AreNotes ss (whole_notes (flat_map segment_items ss))
unfolding whole_notes
read_are_notes [] h = refl
read_are_notes (s ∷ ss) h =
    let here = segment_items s in
    let later = flat_map segment_items ss in
    (whole_notes here, whole_notes later, whole-append here later, segment_stands (holds_notes s) s (none_cut_here here later h), read_are_notes ss (none_cut_later here later h))
