-- A section's bytes in which its relocations are applied (ELF64 gABI, "Relocation"): a copy in which the low
-- bits of each known value are in the place of its field.
use Rattle.std.specs.Prelude.{◌≡◌, ℕ, ◌+◌, ◌≤◌, ◌⊎◌, true, List, [], ◌∷◌, ◌++◌, length, take, drop, Option, Some, None}
use Rattle.std.specs.List.{All, Contains}
use Rattle.std.specs.Option.{option_map_or}
use Rattle.byteorder.specs.Endian.{little_bytes, little_number}
use Rattle.sf_bytes.specs.declared.field.Field.{Field}
use Rattle.elf_reloc.specs.declared.fix.RelocatedField.{RelocatedField}
use Rattle.elf_reloc.specs.Table.{width_of, low_bits}

-- the section with these bytes in place of those from a place on
unfoldable pub overwritten : ℕ → (bytes section : List ℕ) → List ℕ
overwritten place bytes section = take place section ++ (bytes ++ drop (place + length bytes) section)

-- the section with the low bits of all known values, each at the place of its field
unfoldable pub patched : List RelocatedField → List ℕ → List ℕ
patched [] section = section
patched (f ∷ fs) section =
    patched fs (option_map_or (λ (value : ℕ). overwritten f.place (little_bytes (width_of f.range) (low_bits f.range value)) section) f.value section)

-- each field that is written lies in `len` bytes
abbrev pub AreInside : ℕ → List RelocatedField → Type 0
AreInside len [] = Unit {0}
AreInside len (f ∷ fs) = (f.place + width_of f.range ≤ len) × AreInside len fs

-- no field that is written covers a byte of this one
abbrev pub IsFree : (place width : ℕ) → List RelocatedField → Type 0
IsFree place width [] = Unit {0}
IsFree place width (f ∷ fs) = ((place + width ≤ f.place) ⊎ (f.place + width_of f.range ≤ place)) × IsFree place width fs

-- the raw number of each pointer field is the one in the section
abbrev pub AreRaw : List ℕ → List Field → Type 0
AreRaw section fields = All (λ g. g.raw ≡ little_number g.width (drop g.place section)) fields

-- a relocation lies on a pointer field, and its value is not known
pub record IsUnresolved (fixes : List RelocatedField) (g : Field) : Type 0 where
  pub fix : RelocatedField
  pub among : Contains fixes fix
  pub at : fix.place ≡ g.place
  pub unknown : fix.value ≡ None

-- a relocation lies on a pointer field, and its symbol lies in a section that is dropped
pub record IsDropped (fixes : List RelocatedField) (g : Field) : Type 0 where
  pub fix : RelocatedField
  pub among : Contains fixes fix
  pub at : fix.place ≡ g.place
  pub gone : fix.dropped ≡ true

-- what a pointer field holds: the number in the patched section, or nothing exactly where it is unresolved
abbrev pub FieldHolds : List RelocatedField → List ℕ → Field → Option ℕ → Type 0
FieldHolds fixes section g None = IsUnresolved fixes g
FieldHolds fixes section g (Some bits) = (IsUnresolved fixes g → ⊥) × (little_number g.width (drop g.place (patched fixes section)) ≡ bits)
