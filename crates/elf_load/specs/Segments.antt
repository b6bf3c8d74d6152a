-- The loaded segments of a file, in its own addresses and in a process's (ELF64 gABI, "Program Header" and "Base Address").
use Rattle.std.specs.Prelude.{◌≡◌, ℕ, ◌+◌, ◌-◌, ◌%◌, ◌^◌, ◌==◌, Bool, ◌&&◌, nat_le, nat_lt, max, List, [], ◌∷◌, All, filter, length, map, Option, Some, None, if◌then◌else◌}
use Rattle.std.specs.List.{find, range_with_len}
use Rattle.std.specs.Option.{option_map}
use Rattle.elf_read.specs.Header.{p_filesz, p_offset, p_type, p_vaddr}
use Rattle.elf_read.specs.SegmentFields.{is_executable, p_memsz}
use Rattle.elf_read.specs.Sections.{segment_total}
use Rattle.elf_load.specs.declared.mapping.Mapping.{Mapping}

-- the numbers of a file's program headers
abbrev pub header_numbers : List ℕ → List ℕ
header_numbers file = range_with_len 0 (segment_total file)

-- segment i is loaded: PT_LOAD 1
abbrev pub is_loaded : List ℕ → (i : ℕ) → Bool
is_loaded file i = p_type file i == 1

-- where the page of a number begins
abbrev pub page_floor : (page n : ℕ) → ℕ
page_floor page n = n - n % page

-- the first page that begins at a number or after it
abbrev pub page_ceiling : (page n : ℕ) → ℕ
page_ceiling page n = page_floor page (n + (page - 1))

-- ---- in the file's own addresses
-- the number of the first loaded segment
unfoldable pub first_loaded : List ℕ → Option ℕ
first_loaded file = find (is_loaded file) (header_numbers file)

-- the address after a loaded segment's last byte; 0 for a segment that isn't loaded
abbrev pub segment_end : List ℕ → (i : ℕ) → ℕ
segment_end file i = if is_loaded file i then p_vaddr file i + p_memsz file i else 0

-- the greatest of some numbers, or 0 if there are none
abbrev pub greatest : List ℕ → ℕ
greatest [] = 0
greatest (n ∷ ns) = max n (greatest ns)

-- the address after the last byte of all loaded segments
unfoldable pub loaded_end : List ℕ → ℕ
loaded_end file = greatest (map (segment_end file) (header_numbers file))

-- ---- in the addresses of a process
-- A file is loaded at `load` if a mapping is of its segment with this address and this place: load + vaddr + (offset - place) = start, modulo 2^64.
abbrev pub IsLoadedAt : (load : ℕ) → Mapping → (vaddr place : ℕ) → Type 0
IsLoadedAt load mapping vaddr place = (load + vaddr + mapping.offset) % 2 ^ 64 ≡ (mapping.start + place) % 2 ^ 64

-- the load address, below 2^64, for which this holds
abbrev pub load_by : Mapping → (vaddr place : ℕ) → ℕ
load_by mapping vaddr place = (mapping.start + place + (2 ^ 64 - (vaddr + mapping.offset) % 2 ^ 64)) % 2 ^ 64

-- an executable mapping at this offset can be of segment i: it is executable, and its pages have the byte at the offset
abbrev pub can_be_of : (page offset : ℕ) → List ℕ → (i : ℕ) → Bool
can_be_of page offset file i =
    is_loaded file i && is_executable file i && nat_le (page_floor page (p_offset file i)) offset && nat_lt offset (page_ceiling page (p_offset file i + p_filesz file i))

-- all segments that it can be of
abbrev pub mapped_segments : (page offset : ℕ) → List ℕ → List ℕ
mapped_segments page offset file = filter (can_be_of page offset file) (header_numbers file)

-- the number in a list of one
abbrev pub only_one : List ℕ → Option ℕ
only_one [] = None
only_one (n ∷ []) = Some n
only_one (n ∷ m ∷ ns) = None

-- the load address of a file by an executable mapping of it, if the mapping can be of one segment alone
unfoldable pub load_address : (page : ℕ) → Mapping → List ℕ → Option ℕ
load_address page mapping file = option_map (λ (i : ℕ). load_by mapping (p_vaddr file i) (p_offset file i)) (only_one (mapped_segments page mapping.offset file))

-- What a load address says of these segments, all that an executable mapping can be of: there is exactly one, and the mapping is of it. Without a
-- load address there is none or there are several.
abbrev pub IsLoadBy : (segments : List ℕ) → Mapping → List ℕ → (load : Option ℕ) → Type 0
IsLoadBy segments mapping file (Some load) = (length segments ≡ 1) × All (λ (i : ℕ). IsLoadedAt load mapping (p_vaddr file i) (p_offset file i)) segments
IsLoadBy segments mapping file None = ¬ (length segments ≡ 1)

-- what it says of a file
abbrev pub IsLoadOf : (page : ℕ) → Mapping → List ℕ → (load : Option ℕ) → Type 0
IsLoadOf page mapping file = IsLoadBy (mapped_segments page mapping.offset file) mapping file
