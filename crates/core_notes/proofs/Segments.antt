-- The segments of a file by their numbers.
use Rattle.std.proofs.Common.{◌≡◌, ℕ, ◌+◌, ◌<◌, ◌≤◌, List, [], ◌∷◌, length, drop, get_or, sym, ap, ◌∙◌, arith}
use Rattle.std.proofs.lemmas.List.{drop_all, drop_more}
use Rattle.std.proofs.lemmas.List.FromFn.{get_or-map-range_with_len, length-map-range_with_len}
use Rattle.elf_read.specs.Sections.{segment_count}
use Rattle.core_notes.specs.Segment.{SegmentView, segment_of, segments}

pub segments-length : (file : List ℕ) → length (segments file) ≡ segment_count file
unfolding segments
segments-length file = length-map-range_with_len (segment_of file) 0 (segment_count file)

pub segment_at_number : (file : List ℕ) (i : ℕ) (d : SegmentView) → i < segment_count file → get_or (segments file) i d ≡ segment_of file i
unfolding segments
segment_at_number file i d lt = get_or-map-range_with_len (segment_of file) 0 (segment_count file) i i d lt (omega arith)

-- the same of a segment that was read
pub is_at : (file : List ℕ) (i : ℕ) (s d : SegmentView) → i < segment_count file → s ≡ segment_of file i → get_or (segments file) i d ≡ s
is_at file i s d lt is = segment_at_number file i d lt ∙ sym is

pub next_segment : (file : List ℕ) (i : ℕ) → i < segment_count file → drop i (segments file) ≡ segment_of file i ∷ drop (i + 1) (segments file)
next_segment file i lt =
    let len = segments-length file in
    drop_more (segments file) i (segment_of file i) (omega (len, lt, arith))
    ∙ ap (λ (s : SegmentView). s ∷ drop (i + 1) (segments file)) (segment_at_number file i (segment_of file i) lt)

pub no_segment : (file : List ℕ) (i : ℕ) → segment_count file ≤ i → drop i (segments file) ≡ []
no_segment file i le = let len = segments-length file in drop_all i (segments file) (omega (len, le, arith))
