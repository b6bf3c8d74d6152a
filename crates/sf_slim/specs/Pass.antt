-- Inside the crate. The needed rows and functions, by one pass over the rows.
use Rattle.std.specs.Prelude.{ℕ, Bool, false, true, not, ◌&&◌, nat_lt, List, [], ◌∷◌, Option, Some, None, if◌then◌else◌}
use Rattle.sf_model.specs.declared.content.Content.{Content}
use Rattle.sf_model.specs.declared.function.Func.{Func}
use Rattle.sf_model.specs.declared.function.FuncHead.{FuncHead}
use Rattle.sf_model.specs.declared.function.Shape.{Shape}
use Rattle.sf_model.specs.declared.function.Shape.TheVariants.{Plain, Repeat}
use Rattle.sf_model.specs.declared.rows.Row.{Row}
use Rattle.sf_express.specs.Expressed.{repeats}

-- the row begins within the function, and its content isn't that of the last row that was kept
abbrev pub is_needed : (last : Option Content) → (size : ℕ) → Row → Bool
is_needed last size row = nat_lt row.start size && not (repeats last row.content)

-- the needed rows among those after a row with this content
abbrev pub kept : (last : Option Content) → (size : ℕ) → List Row → List Row
kept last size [] = []
kept last size (row ∷ rows) = if is_needed last size row then row ∷ kept (Some row.content) size rows else kept last size rows

-- the needed rows of a function; a function of repeated blocks keeps all
abbrev pub needed_rows : Shape → (size : ℕ) → List Row → List Row
needed_rows Plain size rows = kept None size rows
needed_rows (Repeat block) size rows = rows

-- the function with its needed rows
abbrev pub kept_function : Func → Func
kept_function f = record { start = f.start; size = f.size; shape = f.shape; key = f.key; rows = needed_rows f.shape f.size f.rows }

-- the function of a head and rows
abbrev pub head_with_rows : FuncHead → List Row → Func
head_with_rows head rows = record { start = head.start; size = head.size; shape = head.shape; key = head.key; rows = rows }

-- an offset is within a block
abbrev pub is_in_block : Shape → (offset : ℕ) → Bool
is_in_block Plain offset = true
is_in_block (Repeat block) offset = nat_lt offset block

-- there is a first row, and it begins within the function and within a block
abbrev pub first_holds : Shape → (size : ℕ) → List Row → Bool
first_holds shape size [] = false
first_holds shape size (row ∷ rows) = nat_lt row.start size && is_in_block shape row.start

-- the function has a row at some address: its first row begins within it, and within a block
abbrev pub has_row : Func → Bool
has_row f = first_holds f.shape f.size f.rows
