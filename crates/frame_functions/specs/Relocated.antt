-- What the relocations of a call frame section write (ELF64 gABI, "Relocation"), the first fault of theirs, and what the section's
-- pointer fields hold then.
use Rattle.std.specs.Prelude.{ℕ, Bool, List, drop, map, Option, Some, None, Result, Ok, if◌then◌else◌}
use Rattle.byteorder.specs.Endian.{little_number}
use Rattle.eh_records.specs.Step.{PointerField}
use Rattle.elf_place.specs.Views.{Placing}
use Rattle.elf_read.specs.Sections.{section_bytes}
use Rattle.elf_reloc.specs.declared.fault.RelocFault.{RelocFault}
use Rattle.elf_reloc.specs.declared.fix.RelocatedField.{RelocatedField}
use Rattle.elf_reloc.specs.Applied.{Slot, Applied, applied_of, slot_check}
use Rattle.elf_reloc.specs.Order.{overlap_check}
use Rattle.elf_reloc.specs.Patched.{patched}
use Rattle.elf_reloc.specs.Reading.{section_fixes}
pub use Rattle.elf_reloc.specs.Applied.{placed_among, by_place, is_unresolved_at, names_dropped_at}
use Rattle.sf_bytes.specs.Steps.{◌>>=◌}

-- what the relocations of a section of a placed file write, by rising place; no two of the fields overlap
unfoldable pub relocations_of : Placing → (section : ℕ) → Result (List RelocatedField) RelocFault
relocations_of p section = do
  fixes ← section_fixes p section
  _ ← overlap_check 0 (by_place fixes)
  Ok (by_place fixes)

-- ---- pointer fields
-- its place and width
abbrev pub pointer_slot : PointerField → Slot
pointer_slot g = record { place = g.place; width = g.width }

-- what is written, if each of it is a pointer field, at its place and of its width; or else the first by place that isn't
abbrev pub on_pointers : List PointerField → List RelocatedField → Result (List RelocatedField) RelocFault
on_pointers fields fixes = slot_check (map pointer_slot fields) fixes >>= λ _. Ok fixes

-- what the pointer fields of a section hold, where that is known, and which of them name a dropped section
pub record Values : Type 0 where
  pub bits : PointerField → Option ℕ
  pub dropped : PointerField → Bool

-- the numbers of a copy of the section in which the low bits of each known value are at the place of its field; a field on
-- which a relocation without a value lies holds none
abbrev pub patched_values : List RelocatedField → (section : List ℕ) → Values
patched_values fixes section = record {
  bits = λ g. if is_unresolved_at fixes g.place then None else Some (little_number g.width (drop g.place (patched fixes section)));
  dropped = λ g. names_dropped_at fixes g.place;
}

-- the section to which its relocations are applied, by what is written over its pointer fields
abbrev pub applied_by : Placing → (section : ℕ) → List PointerField → Result Applied RelocFault
applied_by p section fields =
    relocations_of p section
    >>= on_pointers fields
    >>= λ fixes. Ok (applied_of fixes (section_bytes p.file section) (map pointer_slot fields))

-- ---- Inside the crate: parts of these
-- no two of them overlap
abbrev pub without_overlap : List RelocatedField → Result (List RelocatedField) RelocFault
without_overlap fixes = overlap_check 0 fixes >>= λ _. Ok fixes

-- each of these is a pointer field
abbrev pub pointer_check : List PointerField → List RelocatedField → Result (Unit {0}) RelocFault
pointer_check fields fixes = slot_check (map pointer_slot fields) fixes
