-- Fields in the order of their places, and whether they overlap.
use Rattle.std.specs.Prelude.{ℕ, ◌+◌, ◌==◌, Bool, false, List, [], ◌∷◌, Option, Some, None, Result, Ok, Err, nat_lt, if◌then◌else◌}
use Rattle.std.specs.List.Sorted.{IsPermutation, IsNonDecreasingBy, IsStableByKey}
use Rattle.std.specs.Ordering.{nat_cmp}
use Rattle.sf_bytes.specs.declared.field.Field.{Field}
use Rattle.sf_bytes.specs.Rising.{field_place}
use Rattle.elf_reloc.specs.declared.fault.RelocFault.{RelocFault}
use Rattle.elf_reloc.specs.declared.fault.RelocFault.TheVariants.{Twice, Place}
use Rattle.elf_reloc.specs.declared.fix.RelocatedField.{RelocatedField}
use Rattle.elf_reloc.specs.Table.{width_of}

-- the place of a field that is written
abbrev pub place_of : RelocatedField → ℕ
place_of f = f.place

-- the same fields by rising place; those at one place stay in their order
pub record InOrder (all sorted : List RelocatedField) : Type 0 where
  pub moved : IsPermutation all sorted
  pub rising : IsNonDecreasingBy place_of sorted
  pub stable : IsStableByKey place_of nat_cmp all sorted

-- no field begins before the end of the one before it; the later of the first two that overlap is named
unfoldable pub overlap_check : (end : ℕ) → List RelocatedField → Result (Unit {0}) RelocFault
overlap_check end [] = Ok tt
overlap_check end (f ∷ fs) = if nat_lt f.place end then Err (Twice f.index) else overlap_check (f.place + width_of f.range) fs

-- the first that has this number
unfoldable pub first_at : {X : Type 0} → (X → ℕ) → ℕ → List X → Option X
first_at number n [] = None
first_at number n (x ∷ xs) = if number x == n then Some x else first_at number n xs

-- whether a field that was found has the width that is written
abbrev pub has_width : Option Field → RelocatedField → Bool
has_width None f = false
has_width (Some g) f = g.width == width_of f.range

-- a field that is written lies on one of these at the same place and with the same width
abbrev pub lies_on : List Field → RelocatedField → Bool
lies_on fields f = has_width (first_at field_place f.place fields) f

-- each that is written lies on one; the first that doesn't is named
unfoldable pub places_check : List Field → List RelocatedField → Result (Unit {0}) RelocFault
places_check fields [] = Ok tt
places_check fields (f ∷ fs) = if lies_on fields f then places_check fields fs else Err (Place f.index)
