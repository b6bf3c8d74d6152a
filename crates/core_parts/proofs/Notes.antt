-- A core file with one segment of notes.
use Rattle.std.specs.List.{filter, find, flat_map}
use Rattle.std.specs.Option.{IfSome}
use Rattle.std.proofs.Common.{◌≡◌, ℕ, zero, suc, ◌+◌, ◌≤◌, Bool, true, false, cond, List, [], ◌∷◌, ◌++◌, length, drop, map, Some, refl, ap, ◌∙◌, arith}
use Rattle.std.proofs.lemmas.List.{length-drop, length-take, append-nil}
use Rattle.elf_read.specs.Number.{window}
use Rattle.elf_read.specs.Sections.{segment_count}
use Rattle.core_notes.specs.Listing.{NoteItem, notes_from, segment_cursor, segment_items}
use Rattle.core_notes.specs.TotalSize.{HasNoteRoom, note_size, note_size_below}
use Rattle.core_notes.specs.Segment.{SegmentView, segment_of, segments}
use Rattle.core_notes.proofs.Rooms.{note_size_below-none, note_size_below-more}
use Rattle.core_notes.proofs.Segments.{next_segment}
use Rattle.core_parts.specs.declared.segment.SegmentHead.{SegmentHead}
use Rattle.core_parts.specs.Heads.{is_note, segment_in}

-- ---- the notes
abbrev items_of : List ℕ → SegmentHead → List NoteItem
items_of file h = notes_from (segment_cursor (segment_in file h))

by_notes : (file : List ℕ) (hs : List SegmentHead) → flat_map segment_items (map (segment_in file) hs) ≡ flat_map (items_of file) (filter is_note hs)
by_notes file [] = refl
by_notes file (h ∷ hs) = by_kind (is_note h) (by_notes file hs)
  where
    by_kind : (b : Bool) → flat_map segment_items (map (segment_in file) hs) ≡ flat_map (items_of file) (filter is_note hs)
        → (cond b (items_of file h) [] ++ flat_map segment_items (map (segment_in file) hs)) ≡ flat_map (items_of file) (cond b (h ∷ filter is_note hs) (filter is_note hs))
    by_kind true later = ap (λ (items : List NoteItem). items_of file h ++ items) later
    by_kind false later = later

pub notes_of_one : (file : List ℕ) (hs : List SegmentHead) (note : SegmentHead) → filter is_note hs ≡ note ∷ [] → flat_map segment_items (map (segment_in file) hs) ≡ items_of file note
notes_of_one file hs note only = by_notes file hs ∙ ap (flat_map (items_of file)) only ∙ append-nil (items_of file note)

-- ---- the room for them
abbrev total : List SegmentView → ℕ
total [] = 0
total (s ∷ ss) = note_size s + total ss

left_and_before : (file : List ℕ) (n : ℕ) → n ≤ segment_count file → note_size_below file n + total (drop n (segments file)) ≡ total (segments file)
left_and_before file zero within = let none = note_size_below-none file in omega (arith, none)
left_and_before file (suc n) within =
    let next : suc n ≡ n + 1 = omega arith in
    let before = left_and_before file n (omega (arith, within)) in
    let more = note_size_below-more file n in
    let here : total (drop n (segments file)) ≡ note_size (segment_of file n) + total (drop (n + 1) (segments file)) = ap total (next_segment file n (omega (arith, within))) in
    let sum : note_size_below file (n + 1) + total (drop (n + 1) (segments file)) ≡ total (segments file) = omega (arith, before, more, here) in
    ap (λ (k : ℕ). note_size_below file k + total (drop k (segments file))) next ∙ sum

abbrev sizes : List ℕ → List SegmentHead → ℕ
sizes file [] = 0
sizes file (h ∷ hs) = length (window h.place h.size file) + sizes file hs

total_of_notes : (file : List ℕ) (hs : List SegmentHead) → total (map (segment_in file) hs) ≡ sizes file (filter is_note hs)
total_of_notes file [] = refl
total_of_notes file (h ∷ hs) = by_kind (is_note h) (total_of_notes file hs)
  where
    by_kind : (b : Bool) → total (map (segment_in file) hs) ≡ sizes file (filter is_note hs)
        → cond b (length (window h.place h.size file)) 0 + total (map (segment_in file) hs) ≡ sizes file (cond b (h ∷ filter is_note hs) (filter is_note hs))
    by_kind true later = ap (λ (n : ℕ). length (window h.place h.size file) + n) later
    by_kind false later = let none : 0 + total (map (segment_in file) hs) ≡ total (map (segment_in file) hs) = omega arith in none ∙ later

pub room_for_one : (file : List ℕ) (hs : List SegmentHead) (note : SegmentHead) → segments file ≡ map (segment_in file) hs → filter is_note hs ≡ note ∷ [] → HasNoteRoom file
room_for_one file hs note are only n within =
    let sum = left_and_before file n within in
    let all : total (segments file) ≡ length (window note.place note.size file) + 0 = ap total are ∙ total_of_notes file hs ∙ ap (sizes file) only in
    let taken = length-take note.size (drop note.place file) in
    let dropped = length-drop note.place file in
    omega (arith, sum, all, taken, dropped)

-- ---- the one segment of notes
empty : (hs : List SegmentHead) → length hs ≡ 0 → hs ≡ []
empty [] e = refl
empty (h ∷ hs) e = absurd (omega (arith, e))

pub one_found : (hs : List SegmentHead) → length (filter is_note hs) ≡ 1 → IfSome (find is_note hs) (λ note. filter is_note hs ≡ note ∷ [])
one_found [] e = tt
one_found (h ∷ hs) e = by_kind (is_note h) e (one_found hs)
  where
    by_kind : (b : Bool) → length (cond b (h ∷ filter is_note hs) (filter is_note hs)) ≡ 1 → (length (filter is_note hs) ≡ 1 → IfSome (find is_note hs) (λ note. filter is_note hs ≡ note ∷ []))
        → IfSome (cond b (Some h) (find is_note hs)) (λ note. cond b (h ∷ filter is_note hs) (filter is_note hs) ≡ note ∷ [])
    by_kind true e later = ap (λ (others : List SegmentHead). h ∷ others) (empty (filter is_note hs) (omega (arith, e)))
    by_kind false e later = later e
