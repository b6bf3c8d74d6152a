-- The segments of a core file (ELF64 gABI, "Program Header").
use Rattle.std.specs.Prelude.{ℕ, ◌==◌, Bool, List, map}
use Rattle.std.specs.List.{range_with_len}
use Rattle.elf_read.specs.declared.entry.Segment.{Segment}
use Rattle.elf_read.specs.Header.{p_type, p_vaddr, p_offset}
use Rattle.elf_read.specs.Sections.{segment_count}
use Rattle.elf_read.specs.Views.{segment_bytes}

-- a segment: its type, its address, and its bytes with their place in the file
pub record SegmentView : Type 0 where
  pub kind : ℕ
  pub vaddr : ℕ
  pub place : ℕ
  pub bytes : List ℕ

-- Inside the crate: a segment as the code has it
abbrev pub segment_view : Segment → SegmentView
segment_view s = record { kind = s.kind; vaddr = s.vaddr; place = s.place; bytes = s.bytes.now }

-- the segment of a program header's number
abbrev pub segment_of : List ℕ → ℕ → SegmentView
segment_of file i = record { kind = p_type file i; vaddr = p_vaddr file i; place = p_offset file i; bytes = segment_bytes file i }

-- all segments, in the order of their headers
unfoldable pub segments : List ℕ → List SegmentView
segments file = map (segment_of file) (range_with_len 0 (segment_count file))

-- the segment is loaded: PT_LOAD 1
abbrev pub is_load : SegmentView → Bool
is_load s = s.kind == 1

-- the segment has notes: PT_NOTE 4
abbrev pub holds_notes : SegmentView → Bool
holds_notes s = s.kind == 4
