-- Pointer fields of one section in the order of their places.
use Rattle.std.specs.Prelude.{ℕ, ◌+◌, ◌<◌, ◌≤◌, List, length, slice_index_or}
use Rattle.std.specs.List.Sorted.{IsNonDecreasingBy}
use Rattle.sf_bytes.specs.declared.field.Field.{Field}

-- the place of a field
abbrev pub field_place : Field → ℕ
field_place f = f.place

-- no field is before one that is listed earlier
abbrev pub AreRising : List Field → Type 0
AreRising fields = IsNonDecreasingBy field_place fields

-- each field ends before those that are listed later begin
abbrev pub AreApart : List Field → Type 0
AreApart fields = (i j : ℕ) (d : Field) → i < j → j < length fields
    → (slice_index_or fields i d).place + (slice_index_or fields i d).width ≤ (slice_index_or fields j d).place
