-- Going over segments by number.
use Rattle.std.specs.List.{find}
use Rattle.std.proofs.Common.{◌≡◌, ℕ, ◌+◌, ◌<◌, ◌≤◌, Bool, true, false, cond, List, ◌∷◌, drop, Some, None, sym, ap, ◌∙◌}
use Rattle.elf_read.specs.Sections.{segment_count}
use Rattle.core_notes.specs.Segment.{SegmentView, segment_of, segments}
use Rattle.core_notes.specs.Memory.{memory_end, rise_from}
use Rattle.core_notes.proofs.Segments.{next_segment, no_segment}
use Rattle.core_notes.proofs.Rising.{rise-nil, rise_goes_on, rise_stops}

tested : (p : SegmentView → Bool) (file : List ℕ) (i : ℕ) (s : SegmentView) (b : Bool) → i < segment_count file → s ≡ segment_of file i → p s ≡ b
    → find p (drop i (segments file)) ≡ cond b (Some s) (find p (drop (i + 1) (segments file)))
tested p file i s b lt is t =
    ap (find p) (next_segment file i lt)
    ∙ ap (λ (x : SegmentView). cond (p x) (Some x) (find p (drop (i + 1) (segments file)))) (sym is)
    ∙ ap (λ (c : Bool). cond c (Some s) (find p (drop (i + 1) (segments file)))) t

pub takes : (p : SegmentView → Bool) (file : List ℕ) (i : ℕ) (s : SegmentView) → i < segment_count file → s ≡ segment_of file i → p s ≡ true
    → find p (drop i (segments file)) ≡ Some s
takes p file i s = tested p file i s true

pub skips : (p : SegmentView → Bool) (file : List ℕ) (i : ℕ) (s : SegmentView) → i < segment_count file → s ≡ segment_of file i → p s ≡ false
    → find p (drop i (segments file)) ≡ find p (drop (i + 1) (segments file))
skips p file i s = tested p file i s false

pub none_left : (p : SegmentView → Bool) (file : List ℕ) (i : ℕ) → segment_count file ≤ i → find p (drop i (segments file)) ≡ None
none_left p file i le = ap (find p) (no_segment file i le)

-- the same of rising addresses
pub rise_passes : (file : List ℕ) (i end : ℕ) (s : SegmentView) → i < segment_count file → s ≡ segment_of file i → end ≤ s.vaddr
    → rise_from end (drop i (segments file)) ≡ rise_from (memory_end s) (drop (i + 1) (segments file))
rise_passes file i end s lt is le =
    ap (rise_from end) (next_segment file i lt ∙ ap (λ (x : SegmentView). x ∷ drop (i + 1) (segments file)) (sym is)) ∙ rise_goes_on end s (drop (i + 1) (segments file)) le

pub rise_fails : (file : List ℕ) (i end : ℕ) (s : SegmentView) → i < segment_count file → s ≡ segment_of file i → s.vaddr < end → rise_from end (drop i (segments file)) ≡ false
rise_fails file i end s lt is gt =
    ap (rise_from end) (next_segment file i lt ∙ ap (λ (x : SegmentView). x ∷ drop (i + 1) (segments file)) (sym is)) ∙ rise_stops end s (drop (i + 1) (segments file)) gt

pub rise_ends : (file : List ℕ) (i end : ℕ) → segment_count file ≤ i → rise_from end (drop i (segments file)) ≡ true
rise_ends file i end le = ap (rise_from end) (no_segment file i le) ∙ rise-nil end
