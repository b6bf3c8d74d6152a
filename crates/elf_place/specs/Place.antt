-- Where the sections of a file lie (ELF64 gABI, "Sections", sh_addr and sh_addralign). `dropped` has for
-- each section whether it is dropped.
use Rattle.std.specs.Prelude.{◌≡◌, ℕ, true, ◌+◌, ◌-◌, ◌*◌, ◌/◌, ◌^◌, ◌==◌, ◌<◌, ◌≤◌, Bool, false, ◌&&◌, ◌||◌, not, List, [], ◌∷◌, Option, Some, None, Result, nat_le, nat_lt, slice_index_or, if◌then◌else◌}
use Rattle.std.specs.Int.{is_power_of_two}
use Rattle.std.specs.List.{filter}
use Rattle.sf_model.specs.Answers as answers
use Rattle.elf_read.specs.Checking.{unless, where_so, ◌>>◌, each_below, numbers_below}
use Rattle.elf_read.specs.Header.{is_rel}
use Rattle.elf_read.specs.Sections.{section_fields, section_count, is_allocated, is_eh_frame}
use Rattle.elf_place.specs.declared.fault.PlaceFault.{PlaceFault}
use Rattle.elf_place.specs.declared.fault.PlaceFault.TheVariants.{Align, AddressOverflow, NoBits, NoMemory}

-- a section gets an address where it is loaded and not dropped
unfoldable pub is_placed : List ℕ → List Bool → ℕ → Bool
is_placed file dropped i = is_allocated file i && not (slice_index_or dropped i false)

-- the least multiple of the alignment that is not below the number; no alignment counts as 1
unfoldable pub aligned : ℕ → ℕ → ℕ
aligned from align = if align == 0 then from else (from + (align - 1)) / align * align

-- where sections end that follow one another from an address on, each at the least multiple of its alignment
unfoldable pub end_of : List ℕ → (from : ℕ) → List ℕ → ℕ
end_of file from [] = from
end_of file from (i ∷ sections) = end_of file (aligned from (section_fields file i).sh_addralign + (section_fields file i).sh_size) sections

-- where a section starts: in an object after those before it, as its alignment asks; else at its own address, moved by the base
unfoldable pub section_start : List ℕ → List Bool → (base i : ℕ) → ℕ
section_start file dropped base i =
    if is_rel file then aligned (end_of file base (filter (is_placed file dropped) (numbers_below i))) (section_fields file i).sh_addralign else base + (section_fields file i).sh_addr

-- a section's address, where it has one
unfoldable pub address_of : List ℕ → List Bool → (base i : ℕ) → Option ℕ
address_of file dropped base i = if is_placed file dropped i then Some (section_start file dropped base i) else None

-- a section that has an address starts below 2^64, and ends there or before
abbrev pub LiesInMemory : Option ℕ → (size : ℕ) → Type 0
LiesInMemory None size = Unit {0}
LiesInMemory (Some start) size = (start < 2 ^ 64) × (start + size ≤ 2 ^ 64)

-- the sections with call frame information that are not dropped
unfoldable pub is_kept_eh_frame : List ℕ → List Bool → ℕ → Bool
is_kept_eh_frame file dropped i = is_eh_frame file i && not (slice_index_or dropped i false)

-- the number of a section with call frame information
abbrev pub IsEhFrame : List ℕ → ℕ → Type 0
IsEhFrame file i = (i < section_count file) × (is_eh_frame file i ≡ true)

-- The first fault: an alignment that is neither none nor a power of two; a section that doesn't start below 2^64 and end there or before;
-- call frame information without bytes, of type SHT_NOBITS 8.
unfoldable pub place_check : List ℕ → List Bool → ℕ → Result (Unit {0}) PlaceFault
place_check file dropped base =
    each_below (section_count file) (λ i.
    let align = (section_fields file i).sh_addralign in
    where_so (is_placed file dropped i) (unless ((align == 0) || is_power_of_two align) (Align i)))
    >> each_below (section_count file) (λ i.
    let start = section_start file dropped base i in
    where_so (is_placed file dropped i) (unless (nat_lt start (2 ^ 64) && nat_le (start + (section_fields file i).sh_size) (2 ^ 64)) (AddressOverflow i)))
    >> each_below (section_count file) (λ i. where_so (is_kept_eh_frame file dropped i) (unless (not ((section_fields file i).sh_type == 8)) (NoBits i)))

-- the numbers below n of sections with call frame information that are not dropped
unfoldable pub eh_frames_below : List ℕ → List Bool → ℕ → List ℕ
eh_frames_below file dropped n = filter (is_kept_eh_frame file dropped) (numbers_below n)

-- how far a section's address is from the one in its header, where that is no object's
unfoldable pub shift_of : List ℕ → ℕ → ℕ
shift_of file base = if is_rel file then 0 else base

-- ---- what a call returns
-- the faults that a check gives: all but out of memory
abbrev pub place_refusal : PlaceFault → Option PlaceFault
place_refusal NoMemory = None
place_refusal fault = Some fault

-- Inside the crate: a fault is that of the check, unless memory ran out
abbrev pub Fails : PlaceFault → Result (Unit {0}) PlaceFault → Type 0
Fails fault check = answers.Fails place_refusal fault check

-- what a call returned is what the check gives, unless memory ran out
abbrev pub Gives : {X : Type 0} → Result X PlaceFault → Result (Unit {0}) PlaceFault → Type 0
Gives result check = answers.Gives place_refusal (λ x. tt) result check

-- ---- Inside the crate: the checks of one section
-- no alignment, or a power of two
abbrev pub is_alignment : ℕ → Bool
is_alignment align = (align == 0) || is_power_of_two align

-- the alignment of a section that gets an address is none or a power of two
unfoldable pub align_check : List ℕ → List Bool → ℕ → Result (Unit {0}) PlaceFault
align_check file dropped i = where_so (is_placed file dropped i) (unless (is_alignment (section_fields file i).sh_addralign) (Align i))

-- it starts below 2^64 and ends there or before
abbrev pub has_addresses : ℕ → ℕ → Bool
has_addresses start size = nat_lt start (2 ^ 64) && nat_le (start + size) (2 ^ 64)

-- a section that gets an address lies in memory
unfoldable pub overflow_check : List ℕ → List Bool → (base i : ℕ) → Result (Unit {0}) PlaceFault
overflow_check file dropped base i =
    where_so (is_placed file dropped i) (unless (has_addresses (section_start file dropped base i) (section_fields file i).sh_size) (AddressOverflow i))

-- call frame information has bytes: it isn't of type SHT_NOBITS 8
unfoldable pub bits_check : List ℕ → List Bool → ℕ → Result (Unit {0}) PlaceFault
bits_check file dropped i = where_so (is_kept_eh_frame file dropped i) (unless (not ((section_fields file i).sh_type == 8)) (NoBits i))
