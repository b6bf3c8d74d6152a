-- The pointer fields of a section and the numbers in them (LSB Core, "DWARF Exception Header Encoding").
use Rattle.std.specs.Prelude.{◌≡◌, ℕ, ◌+◌, ◌<◌, ◌≤◌, All, List, length, drop, slice_index_or}
use Rattle.byteorder.specs.Endian.{little_number}
use Rattle.eh_records.specs.Step.{PointerField}

-- a field's bytes lie in the section, and its raw number is the number there
pub record HoldsRaw (section : List ℕ) (field : PointerField) : Type 0 where
  pub within : field.place + field.width ≤ length section
  pub raw : field.raw ≡ little_number field.width (drop field.place section)

-- the bytes of all these fields lie in the section, and their raw numbers are those there
abbrev pub HoldRaw : List ℕ → List PointerField → Type 0
HoldRaw section fields = All (HoldsRaw section) fields

-- each field ends before those that are listed later begin
abbrev pub StandApart : List PointerField → Type 0
StandApart fields = (i j : ℕ) (d : PointerField) → i < j → j < length fields
    → (slice_index_or fields i d).place + (slice_index_or fields i d).width ≤ (slice_index_or fields j d).place
