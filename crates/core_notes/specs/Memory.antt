-- The memory of a core file: its PT_LOAD segments (ELF64 gABI, "Program Header").
use Rattle.std.specs.Prelude.{ℕ, ◌+◌, ◌-◌, ◌<◌, ◌≤◌, Bool, true, ◌&&◌, nat_le, List, [], ◌∷◌, length, map, slice_index_or, if◌then◌else◌}
use Rattle.std.specs.List.{filter}
use Rattle.sf_model.specs.Memory.{Region, holds_eight}
use Rattle.sf_lookup.specs.declared.span.Span.{Span}
use Rattle.core_notes.specs.Segment.{SegmentView, is_load, segments}

-- a segment's bytes at its address
abbrev pub region_of : SegmentView → Region
region_of s = record { start = s.vaddr; bytes = s.bytes }

-- the memory of segments, in the order of their headers
abbrev pub regions_in : List SegmentView → List Region
regions_in ss = map region_of (filter is_load ss)

-- the memory of a file
abbrev pub file_regions : List ℕ → List Region
file_regions file = regions_in (segments file)

-- ---- Inside the crate
-- the segment is memory that holds the eight bytes from an address on
abbrev pub is_holder : (address : ℕ) → SegmentView → Bool
is_holder address s = is_load s && holds_eight address (region_of s)

-- where the memory of a segment ends
abbrev pub memory_end : SegmentView → ℕ
memory_end s = if is_load s then s.vaddr + length s.bytes else s.vaddr

-- each segment has its address where the memory before it ends, or after
unfoldable pub rise_from : (end : ℕ) → List SegmentView → Bool
rise_from end [] = true
rise_from end (s ∷ ss) = nat_le end s.vaddr && rise_from (memory_end s) ss

-- n segments have an address that is not above this one: those before the others
pub record IsCountUpto (address : ℕ) (ss : List SegmentView) (n : ℕ) : Type 0 where
  pub within : n ≤ length ss
  pub reached : (k : ℕ) (d : SegmentView) → k < n → (slice_index_or ss k d).vaddr ≤ address
  pub above : (k : ℕ) (d : SegmentView) → n ≤ k → k < length ss → address < (slice_index_or ss k d).vaddr

-- the addresses from which on a segment holds eight bytes, which lead to its number
abbrev pub holding : (number : ℕ) → SegmentView → Span ℕ
holding number s = record { start = s.vaddr; size = (if is_load s then length s.bytes - 7 else 0); leads_to = number }

-- the same of segments whose numbers begin at `first`
abbrev pub holdings : (first : ℕ) → List SegmentView → List (Span ℕ)
holdings first [] = []
holdings first (s ∷ ss) = holding first s ∷ holdings (first + 1) ss
