-- GNU SFrame specification, Version 2, function descriptor entries and frame row entries: which row holds at an address.
use Rattle.std.specs.Prelude.{◌+◌, ◌-◌, ◌%◌, ◌&&◌, ℕ, Bool, nat_le, nat_lt, List, Option, Some, None}
use Rattle.std.specs.Option.{option_map}
use Rattle.std.specs.List.{filter, find, list_all}
use Rattle.sf_model.specs.declared.rows.Row.{Row}
use Rattle.sf_model.specs.declared.function.Shape.{Shape}
use Rattle.sf_model.specs.declared.function.Shape.TheVariants.{Plain, Repeat}
use Rattle.sf_model.specs.declared.function.Func.{Func}

-- a function, and the row of it that holds at an address
pub record FoundRow : Type 0 where
  pub func : Func
  pub row : Row

-- the function's bytes hold the address
abbrev pub contains : (pc : ℕ) → Func → Bool
contains pc f = nat_le f.start pc && nat_lt pc (f.start + f.size)

-- the offset by which a function's rows are looked up: the offset itself, or in a function of repeated blocks the offset
-- in its block
abbrev pub offset_in_block : Shape → (offset : ℕ) → ℕ
offset_in_block Plain offset = offset
offset_in_block (Repeat size) offset = offset % size

-- the row begins at or before the offset
abbrev pub begins_by : (offset : ℕ) → Row → Bool
begins_by offset row = nat_le row.start offset

-- no row begins after this one
abbrev pub begins_last : List Row → Row → Bool
begins_last rows row = list_all (λ (other : Row). nat_le other.start row.start) rows

-- of the rows that begin at or before the offset, the one with the greatest start
unfoldable pub row_at : (offset : ℕ) → List Row → Option Row
row_at offset rows = let begun = filter (begins_by offset) rows in find (begins_last begun) begun

-- the function's row at an address that it contains
abbrev pub row_in : (pc : ℕ) → Func → Option FoundRow
row_in pc f = option_map (λ (row : Row). record { func = f; row = row }) (row_at (offset_in_block f.shape (pc - f.start)) f.rows)

-- the row in the first function that contains the address, if there is one
abbrev pub row_in_first : (pc : ℕ) → Option Func → Option FoundRow
row_in_first pc (Some f) = row_in pc f
row_in_first pc None = None

-- the row that a section's functions have at an address: the first function that contains it decides
unfoldable pub found_at : List Func → (pc : ℕ) → Option FoundRow
found_at functions pc = row_in_first pc (find (contains pc) functions)
