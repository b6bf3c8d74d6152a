-- The memory of a core file, as far as parts of the file were read (ELF64 gABI, "Program Header", PT_LOAD).
use Rattle.std.specs.Prelude.{ℕ, ◌+◌, ◌-◌, Bool, ◌&&◌, nat_le, List, [], length, map, take, drop, if◌then◌else◌}
use Rattle.std.specs.List.{flat_map}
use Rattle.sf_bytes.specs.Cursor.{Cursor}
use Rattle.sf_bytes.specs.declared.file_part.FilePart.{FilePart}
use Rattle.sf_lookup.specs.declared.span.Span.{Span}
use Rattle.sf_model.specs.Memory.{Region}
use Rattle.core_parts.specs.declared.memory.Block.{Block}
use Rattle.core_parts.specs.declared.segment.SegmentHead.{SegmentHead}
use Rattle.core_parts.specs.Heads.{is_memory}
use Rattle.core_parts.specs.Whole.{part_cursor}

-- the bytes that a part of the file, at its place, has of a segment, at their address; none if the part is before the segment or after it
abbrev pub part_region : SegmentHead → Cursor → Region
part_region h part = record { start = h.vaddr + (part.place - h.place); bytes = take (h.size - (part.place - h.place)) (drop (h.place - part.place) part.left) }

-- what was read of a segment, if it is memory
abbrev pub regions_of : List Cursor → SegmentHead → List Region
regions_of parts h = if is_memory h then map (part_region h) parts else []

-- what was read of the memory
abbrev pub regions_by : List SegmentHead → List Cursor → List Region
regions_by heads parts = flat_map (regions_of parts) heads

-- the same by the parts of a file
abbrev pub regions_read : List SegmentHead → List FilePart → List Region
regions_read heads parts = regions_by heads (map part_cursor parts)

-- ---- what was read, as the code has it
abbrev pub block_cursor : Block → Cursor
block_cursor b = record { place = b.place; left = b.bytes.now }

-- ---- Inside the crate
-- the places from which on a block has a byte, which lead to it
abbrev pub first_span : Block → Span Block
first_span b = record { start = b.place; size = length b.bytes.now; leads_to = b }

-- the places from which on it has eight bytes
abbrev pub eight_span : Block → Span Block
eight_span b = record { start = b.place; size = length b.bytes.now - 7; leads_to = b }

-- the place in the file of a segment's byte at an address
abbrev pub place_of : (address : ℕ) → SegmentHead → ℕ
place_of address h = h.place + (address - h.vaddr)

-- a part has all of `len` bytes from a place on
abbrev pub has_bytes : (place len : ℕ) → Cursor → Bool
has_bytes place len part = nat_le part.place place && nat_le (place + len) (part.place + length part.left)
