-- What a core file's memory has at an address (ELF64 gABI, "Program Header"): any number of bytes, and whether they may be executed.
use Rattle.std.specs.Prelude.{ℕ, ◌+◌, ◌-◌, ◌==◌, Bool, ◌&&◌, nat_le, nat_lt, List, length, map, take, drop, Option, if◌then◌else◌}
use Rattle.std.specs.List.{find, range_with_len}
use Rattle.std.specs.Option.{option_map}
use Rattle.sf_model.specs.Memory.{Region}
use Rattle.elf_read.specs.Header.{p_type, p_vaddr}
use Rattle.elf_read.specs.Sections.{segment_count}
use Rattle.elf_read.specs.SegmentFields.{is_executable, p_memsz}
use Rattle.sf_lookup.specs.declared.span.Span.{Span}
use Rattle.core_notes.specs.Memory.{region_of}
use Rattle.core_notes.specs.Segment.{SegmentView, is_load}

-- all of `len` bytes from an address on lie in the region
abbrev pub holds_bytes : (address len : ℕ) → Region → Bool
holds_bytes address len region = nat_le region.start address && nat_le (address + len) (region.start + length region.bytes)

-- the region's bytes from an address on
abbrev pub region_bytes : (address len : ℕ) → Region → List ℕ
region_bytes address len region = take len (drop (address - region.start) region.bytes)

-- `len` bytes from an address on, by the first region that holds them all
unfoldable pub bytes_at : List Region → (address len : ℕ) → Option (List ℕ)
bytes_at memory address len = option_map (region_bytes address len) (find (holds_bytes address len) memory)

-- the address is one of a load segment's, as it is in memory: PT_LOAD 1
abbrev pub segment_contains : List ℕ → (address i : ℕ) → Bool
segment_contains file address i = (p_type file i == 1) && nat_le (p_vaddr file i) address && nat_lt address (p_vaddr file i + p_memsz file i)

-- whether the first load segment that has an address is executable, if one has it
unfoldable pub executable_at : List ℕ → (address : ℕ) → Option Bool
executable_at file address = option_map (is_executable file) (find (segment_contains file address) (range_with_len 0 (segment_count file)))

-- ---- Inside the crate: the same of segments, as they are searched
-- the segment is memory that holds all of `len` bytes from an address on
abbrev pub is_bytes_holder : (address len : ℕ) → SegmentView → Bool
is_bytes_holder address len s = is_load s && holds_bytes address len (region_of s)

-- the addresses that a load segment has in memory, which lead to whether it is executable; another segment has none
abbrev pub load_span : List ℕ → (i : ℕ) → Span Bool
load_span file i = record { start = p_vaddr file i; size = (if p_type file i == 1 then p_memsz file i else 0); leads_to = is_executable file i }

-- the addresses of all segments
abbrev pub load_spans : List ℕ → List (Span Bool)
load_spans file = map (load_span file) (range_with_len 0 (segment_count file))
