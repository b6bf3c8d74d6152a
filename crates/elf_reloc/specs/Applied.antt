-- A section to which its relocations are applied (ELF64 gABI, "Relocation"): the patched bytes, and those of its pointer fields whose
-- values can't be known yet or are places in a dropped section; or the first fault.
use Rattle.std.specs.Prelude.{ℕ, Bool, ◌==◌, ◌&&◌, nat_le, List, [], ◌∷◌, map, is_none, Result, Ok, Err, if◌then◌else◌}
use Rattle.std.specs.List.{filter, list_any}
use Rattle.sf_bytes.specs.declared.field.Field.{Field}
use Rattle.elf_read.specs.Sections.{section_bytes}
use Rattle.elf_place.specs.Views.{Placing}
use Rattle.elf_reloc.specs.declared.fault.RelocFault.{RelocFault}
use Rattle.elf_reloc.specs.declared.fault.RelocFault.TheVariants.{Place}
use Rattle.elf_reloc.specs.declared.fix.RelocatedField.{RelocatedField}
use Rattle.elf_reloc.specs.Order.{overlap_check, places_check}
use Rattle.elf_reloc.specs.Patched.{patched}
use Rattle.elf_reloc.specs.Reading.{◌>>=◌, section_fixes}
use Rattle.elf_reloc.specs.Table.{width_of}

-- ---- the fields that are written, by rising place
-- a field before those that are at its place or after it
abbrev pub placed_among : RelocatedField → List RelocatedField → List RelocatedField
placed_among f [] = f ∷ []
placed_among f (g ∷ gs) = if nat_le f.place g.place then f ∷ g ∷ gs else g ∷ placed_among f gs

-- those at one place stay in their order
abbrev pub by_place : List RelocatedField → List RelocatedField
by_place [] = []
by_place (f ∷ fs) = placed_among f (by_place fs)

-- ---- pointer fields
-- a pointer field: its place in the section, and its width in bytes
pub record Slot : Type 0 where
  pub place : ℕ
  pub width : ℕ

-- the pointer field alone, without the number in it
abbrev pub slot_of : Field → Slot
slot_of g = record { place = g.place; width = g.width }

-- what is written is each a pointer field, at its place and of its width; the first by place that isn't is named
unfoldable pub slot_check : List Slot → List RelocatedField → Result (Unit {0}) RelocFault
slot_check slots [] = Ok tt
slot_check slots (f ∷ fs) =
    if list_any (λ (g : Slot). (g.place == f.place) && (g.width == width_of f.range)) slots then slot_check slots fs else Err (Place f.index)

-- a relocation at this place has no value yet
abbrev pub is_unresolved_at : List RelocatedField → (place : ℕ) → Bool
is_unresolved_at fixes place = list_any (λ f. (f.place == place) && is_none f.value) fixes

-- a relocation at this place names a section that is dropped
abbrev pub names_dropped_at : List RelocatedField → (place : ℕ) → Bool
names_dropped_at fixes place = list_any (λ f. (f.place == place) && f.dropped) fixes

-- ---- the section
-- a section to which its relocations are applied
pub record Applied : Type 0 where
  -- a copy of the section's bytes in which the low bits of each known value are in the place of its field
  pub bytes : List ℕ
  -- the pointer fields whose value is not known
  pub unresolved : List Slot
  -- those whose symbol is in a dropped section
  pub dropped : List Slot

-- the section with what is written, by rising place
abbrev pub applied_of : List RelocatedField → (section : List ℕ) → List Slot → Applied
applied_of fixes section slots = record {
  bytes = patched fixes section;
  unresolved = filter (λ (g : Slot). is_unresolved_at fixes g.place) slots;
  dropped = filter (λ (g : Slot). names_dropped_at fixes g.place) slots;
}

-- first come the faults of each relocation by itself, in their order; then the later of the first two fields by place that overlap;
-- then the first by place that is no pointer field
unfoldable pub applied_to : Placing → (section : ℕ) → List Slot → Result Applied RelocFault
applied_to p section slots = do
  fixes ← section_fixes p section
  _ ← overlap_check 0 (by_place fixes)
  _ ← slot_check slots (by_place fixes)
  Ok (applied_of (by_place fixes) (section_bytes p.file section) slots)

-- ---- for the law `relocations_are_applied` alone
-- the same, where of pointer fields at one place the first counts
unfoldable pub applied_by_first : Placing → (section : ℕ) → List Field → Result Applied RelocFault
applied_by_first p section fields = do
  fixes ← section_fixes p section
  _ ← overlap_check 0 (by_place fixes)
  _ ← places_check fields (by_place fixes)
  Ok (applied_of (by_place fixes) (section_bytes p.file section) (map slot_of fields))
