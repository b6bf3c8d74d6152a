-- The relocations of a section with call frame information, in order of section and entry (ELF64 gABI,
-- "Relocation"), and the first fault.
use Rattle.std.specs.Prelude.{◌≡◌, ℕ, zero, suc, ◌+◌, ◌-◌, ◌%◌, ◌^◌, ◌==◌, Bool, true, false, List, [], ◌∷◌, ◌++◌, flat_map, length, map, Option, Some, None, option_to_list, Result, Ok, Err, nat_lt, if◌then◌else◌}
use Rattle.std.specs.Option.{unwrap_or}
use Rattle.std.specs.Int.{w64, cast_unsigned}
use Rattle.sf_model.specs.Answers as answers
use Rattle.elf_read.specs.Checking.{numbers_below}
use Rattle.elf_read.specs.Header.{is_rel, arch_of}
use Rattle.elf_read.specs.Sections.{section_fields, section_bytes, rela_fields, entry_count}
use Rattle.elf_place.specs.Relocations.{relocation_sections}
use Rattle.elf_place.specs.Views.{Placing, address_at}
use Rattle.elf_reloc.specs.declared.fault.RelocFault.{RelocFault}
use Rattle.elf_reloc.specs.declared.fault.RelocFault.TheVariants.{UnknownType, Range, RelSection, OutOfSection, NoMemory}
use Rattle.elf_reloc.specs.declared.fix.RelocatedField.{RelocatedField}
use Rattle.elf_reloc.specs.declared.reading.FixesSoFar.{FixesSoFar}
use Rattle.elf_reloc.specs.declared.table.Effect.{Effect}
use Rattle.elf_reloc.specs.declared.table.Effect.TheVariants.{Nothing, Absolute, Relative}
use Rattle.elf_reloc.specs.declared.table.Range.{Range as range}
use Rattle.elf_reloc.specs.declared.target.Target.{Target}
use Rattle.elf_reloc.specs.declared.target.Target.TheVariants.{Address, Unresolved, Dropped}
use Rattle.elf_reloc.specs.Table.{effect_of, width_of, fits}
use Rattle.elf_reloc.specs.Target.{symbol_target}
pub use Rattle.sf_bytes.specs.Steps.{◌>>=◌}

-- what is written where the symbol's value is known, which must fit the field; else what is known of the field
abbrev pub aimed : (place index : ℕ) → range → (ℕ → ℕ) → Target → Result RelocatedField RelocFault
aimed place index form value (Address symbol) =
    if fits form (value symbol)
    then Ok (record { place = place; index = index; range = form; value = Some (value symbol); dropped = false })
    else Err (Range index)
aimed place index form value Unresolved = Ok (record { place = place; index = index; range = form; value = None; dropped = false })
aimed place index form value Dropped = Ok (record { place = place; index = index; range = form; value = None; dropped = true })

-- a field that must lie in the section's bytes
unfoldable pub inside : (len place index : ℕ) → range → Result RelocatedField RelocFault → Result (Option RelocatedField) RelocFault
inside len place index form read = if nat_lt len (place + width_of form) then Err (OutOfSection index) else (read >>= λ f. Ok (Some f))

-- What a relocation does: its type, its place, its addend as 64 bits, the section's length and address, and its symbol. The value is
-- S + A, or S + A - P, modulo 2^64.
abbrev pub applied : Option Effect → (len address place index addend : ℕ) → Target → Result (Option RelocatedField) RelocFault
applied None len address place index addend target = Err (UnknownType index)
applied (Some Nothing) len address place index addend target = Ok None
applied (Some (Absolute form)) len address place index addend target =
    inside len place index form (aimed place index form (λ s. (s + addend) % 2 ^ 64) target)
applied (Some (Relative form)) len address place index addend target =
    inside len place index form (aimed place index form (λ s. (s + addend + (2 ^ 64 - (address + place) % 2 ^ 64)) % 2 ^ 64) target)

-- the address of a section that has one
unfoldable pub placed_address : Placing → ℕ → ℕ
placed_address p section = unwrap_or (address_at p section) 0

-- what entry k of relocation section i does, which has this number among all
unfoldable pub entry_fix : Placing → (section index i k : ℕ) → Result (Option RelocatedField) RelocFault
entry_fix p section index i k =
    applied (effect_of (arch_of p.file) (rela_fields p.file i k).r_type) (length (section_bytes p.file section)) (placed_address p section)
    (rela_fields p.file i k).r_offset index (cast_unsigned w64 (rela_fields p.file i k).r_addend)
    (symbol_target p (section_fields p.file i).sh_link (rela_fields p.file i k).r_sym)

-- ---- all relocations of a section
-- relocations in another form than with addends, in a section of type SHT_RELA 4, are refused; the first of the sections that has some
-- is named
unfoldable pub rel_check : List ℕ → (sections : List ℕ) → Result (Unit {0}) RelocFault
rel_check file [] = Ok tt
rel_check file (i ∷ sections) = if (section_fields file i).sh_type == 4 then rel_check file sections else Err (RelSection i)

-- a relocation: the section that has it, and which of that section's entries it is
pub record Relocation : Type 0 where
  pub table : ℕ
  pub entry : ℕ

-- the relocations of these sections, in order of section and entry
unfoldable pub relocations_in : List ℕ → (sections : List ℕ) → List Relocation
relocations_in file sections = flat_map (λ (i : ℕ). map (λ (k : ℕ). record { table = i; entry = k }) (numbers_below (entry_count file i))) sections

-- ---- what they write
-- the fields that relocations write, or the first fault; the first relocation has this number, its place in the list of all
unfoldable pub fixes_from : Placing → (section number : ℕ) → List Relocation → Result (List RelocatedField) RelocFault
fixes_from p section number [] = Ok []
fixes_from p section number (r ∷ relocations) =
    entry_fix p section number r.table r.entry
    >>= λ f. fixes_from p section (number + 1) relocations
    >>= λ fixes. Ok (option_to_list f ++ fixes)

-- What a section's relocations write, in their order. Only an object's are applied, and a section may have none in another form.
unfoldable pub section_fixes : Placing → ℕ → Result (List RelocatedField) RelocFault
section_fixes p section =
    if is_rel p.file
    then (rel_check p.file (relocation_sections p.file section)
    >>= λ _. fixes_from p section 0 (relocations_in p.file (relocation_sections p.file section)))
    else Ok []

-- ---- what a call returns
-- the faults that a reading gives: all but out of memory
abbrev pub reloc_refusal : RelocFault → Option RelocFault
reloc_refusal NoMemory = None
reloc_refusal fault = Some fault

-- Inside the crate: a fault is that of the reading, unless memory ran out
abbrev pub Fails : {X : Type 0} → RelocFault → Result X RelocFault → Type 0
Fails fault given = answers.Fails reloc_refusal fault given

-- Inside the crate: all fields, where these relocations are left: those so far, and what these write
abbrev pub going_on : Placing → (section : ℕ) → FixesSoFar → List Relocation → Result (List RelocatedField) RelocFault
going_on p section read left = fixes_from p section read.next left >>= λ fixes. Ok (read.fixes.items ++ fixes)

-- Inside the crate: a call read on: all fields are those so far and what is left then
abbrev pub GoesOn : {X : Type 0} → Placing → (section : ℕ) → Result X RelocFault → FixesSoFar → Result (List RelocatedField) RelocFault → (left : List Relocation) → Type 0
GoesOn p section (Ok x) new all left = all ≡ going_on p section new left
GoesOn p section (Err e) new all left = Fails e all

-- Inside the crate: a call read all fields
abbrev pub HoldsAll : {X : Type 0} → Result X RelocFault → FixesSoFar → Result (List RelocatedField) RelocFault → Type 0
HoldsAll (Ok x) new all = all ≡ Ok new.fixes.items
HoldsAll (Err e) new all = Fails e all

-- Inside the crate: what a call returned is what is read, unless memory ran out
abbrev pub Gives : Result FixesSoFar RelocFault → Result (List RelocatedField) RelocFault → Type 0
Gives result given = answers.Gives reloc_refusal (λ (r : FixesSoFar). r.fixes.items) result given

-- ---- Inside the crate: names for these
-- a field that is written: its place, the relocation's number, its form, and its value where that is known
abbrev pub fix : (place index : ℕ) → range → Option ℕ → Bool → RelocatedField
fix place index form value dropped = record { place = place; index = index; range = form; value = value; dropped = dropped }

-- a value that must fit its field
unfoldable pub written : (place index : ℕ) → range → ℕ → Result RelocatedField RelocFault
written place index form value =
    if fits form value
    then Ok (record { place = place; index = index; range = form; value = Some value; dropped = false })
    else Err (Range index)

-- an SHT_RELA section (4), whose relocations have addends
unfoldable pub has_addends : List ℕ → ℕ → Bool
has_addends file i = (section_fields file i).sh_type == 4

-- what those of an object's section write, which may have none in another form
unfoldable pub object_fixes : Placing → ℕ → Result (List RelocatedField) RelocFault
object_fixes p section =
    rel_check p.file (relocation_sections p.file section)
    >>= λ _. fixes_from p section 0 (relocations_in p.file (relocation_sections p.file section))

-- `count` entries of a section, from this one on
unfoldable pub entries_from : (table first count : ℕ) → List Relocation
entries_from table first zero = []
entries_from table first (suc count) = record { table = table; entry = first } ∷ entries_from table (first + 1) count
