-- The notes of one segment after the other.
use Rattle.std.specs.Prelude.{◌++◌}
use Rattle.std.specs.List.{flat_map}
use Rattle.std.proofs.Common.{◌≡◌, ℕ, ◌+◌, ◌<◌, ◌≤◌, Bool, true, false, cond, List, [], length, drop, Option, Some, None, refl, sym, ap, ◌∙◌}
use Rattle.sf_bytes.specs.Cursor.{Cursor}
use Rattle.elf_read.specs.declared.view.Elf.{Elf}
use Rattle.elf_read.specs.Sections.{segment_count}
use Rattle.core_notes.specs.Listing.{NoteItem, items_from, notes_in, notes_after, notes_from, segment_cursor, segment_items}
use Rattle.core_notes.specs.Segment.{SegmentView, holds_notes, segment_of, segments}
use Rattle.core_notes.proofs.Listings.{notes-nil, nothing_left}
use Rattle.core_notes.proofs.Segments.{next_segment, no_segment}

-- the notes of the segments from one on
abbrev pub later_items : List ℕ → ℕ → List NoteItem
later_items file i = flat_map segment_items (drop i (segments file))

pub none_yet : (file : List ℕ) (place : ℕ) (rest : List ℕ) → rest ≡ [] → (notes_after 0 place rest ++ later_items file 0) ≡ notes_in file
none_yet file place rest e = ap (λ (bytes : List ℕ). notes_after 0 place bytes ++ later_items file 0) e ∙ ap (λ (items : List NoteItem). items ++ later_items file 0) (notes-nil 0 place)

pub goes_on : (file : List ℕ) (place i : ℕ) (rest : List ℕ) (part : Cursor) → length rest ≡ 0 → i < segment_count file → notes_from part ≡ segment_items (segment_of file i)
    → (notes_from part ++ later_items file (i + 1)) ≡ (notes_after 0 place rest ++ later_items file i)
goes_on file place i rest part none lt is =
    ap (λ (items : List NoteItem). items ++ later_items file (i + 1)) is
    ∙ sym (ap (flat_map segment_items) (next_segment file i lt))
    ∙ sym (ap (λ (items : List NoteItem). items ++ later_items file i) (nothing_left place rest none))

pub ends : (file : List ℕ) (place i : ℕ) (rest : List ℕ) → length rest ≡ 0 → segment_count file ≤ i → (notes_after 0 place rest ++ later_items file i) ≡ []
ends file place i rest none le =
    ap (λ (items : List NoteItem). items ++ later_items file i) (nothing_left place rest none) ∙ ap (flat_map segment_items) (no_segment file i le)

pub no_file : (elf : Option Elf) (i : ℕ) → ((e : Elf) → elf ≡ Some e → ⊥) → items_from elf i ≡ []
no_file None i never = refl
no_file (Some e) i never = absurd (never e refl)

-- a segment without notes
no_notes : (s : SegmentView) (place : ℕ) (b : Bool) → b ≡ false → notes_after 0 place [] ≡ cond b (notes_from (segment_cursor s)) []
no_notes s place true e = absurd cc
no_notes s place false e = notes-nil 0 place

pub not_notes : (file : List ℕ) (i place : ℕ) (rest : List ℕ) (s : SegmentView) → rest ≡ [] → s ≡ segment_of file i → holds_notes s ≡ false
    → notes_after 0 place rest ≡ segment_items (segment_of file i)
not_notes file i place rest s e is other = ap (notes_after 0 place) e ∙ no_notes s place (holds_notes s) other ∙ ap segment_items is
