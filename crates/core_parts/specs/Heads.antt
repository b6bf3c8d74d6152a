-- The segments of a core file by their program headers (ELF64 gABI, "Program Header").
use Rattle.std.specs.Prelude.{ℕ, ◌+◌, ◌==◌, Bool, true, ◌&&◌, ◌||◌, not, nat_le, List, [], ◌∷◌, map, Option, Some, None, if◌then◌else◌}
use Rattle.std.specs.List.{list_all}
use Rattle.sf_lookup.specs.declared.span.Span.{Span}
use Rattle.sf_model.specs.Memory.{Region}
use Rattle.elf_read.specs.Number.{window}
use Rattle.core_notes.specs.Memory.{regions_in}
use Rattle.core_notes.specs.Segment.{SegmentView}
use Rattle.core_parts.specs.declared.segment.SegmentHead.{SegmentHead}

-- the segment of a header, with its bytes in a file
abbrev pub segment_in : List ℕ → SegmentHead → SegmentView
segment_in file h = record { kind = h.kind; vaddr = h.vaddr; place = h.place; bytes = window h.place h.size file }

-- the memory of a file by the headers of its segments
abbrev pub memory_in : List ℕ → List SegmentHead → List Region
memory_in file heads = regions_in (map (segment_in file) heads)

-- the segment is memory: PT_LOAD 1
abbrev pub is_memory : SegmentHead → Bool
is_memory h = h.kind == 1

-- the segment has notes: PT_NOTE 4
abbrev pub is_note : SegmentHead → Bool
is_note h = h.kind == 4

-- the segment is memory that has all of `len` bytes from an address on
abbrev pub head_holds : (address len : ℕ) → SegmentHead → Bool
head_holds address len h = is_memory h && (nat_le h.vaddr address && nat_le (address + len) (h.vaddr + h.size))

-- the addresses that a segment has in memory, which lead to whether it is executable; one that isn't memory has none
abbrev pub head_span : SegmentHead → Span Bool
head_span h = record { start = h.vaddr; size = (if is_memory h then h.memory_size else 0); leads_to = h.executable }

-- the segment has its address where the memory before it ends, or after
abbrev pub rises : (end : ℕ) → SegmentHead → Bool
rises end h = not (is_memory h) || nat_le end h.vaddr

-- where the memory up to a segment ends
abbrev pub end_after : (end : ℕ) → SegmentHead → ℕ
end_after end h = if is_memory h then h.vaddr + h.size else end

-- the addresses at which a segment has bytes, which lead to it; one that isn't memory has none
abbrev pub held_span : SegmentHead → Span SegmentHead
held_span h = record { start = h.vaddr; size = (if is_memory h then h.size else 0); leads_to = h }

-- a segment that was found, if it has all of `len` bytes from an address on
abbrev pub if_holds : (address len : ℕ) → Option SegmentHead → Option SegmentHead
if_holds address len (Some h) = if head_holds address len h then Some h else None
if_holds address len None = None

-- each segment has its address where the memory before it ends, or after
abbrev pub heads_rise : (end : ℕ) → List SegmentHead → Bool
heads_rise end [] = true
heads_rise end (h ∷ hs) = rises end h && heads_rise (end_after end h) hs

-- a segment's bytes lie in a file of this length
abbrev pub head_lies : (len : ℕ) → SegmentHead → Bool
head_lies len h = nat_le (h.place + h.size) len

-- the bytes of each segment do
abbrev pub heads_lie : (len : ℕ) → List SegmentHead → Bool
heads_lie len heads = list_all (head_lies len) heads
