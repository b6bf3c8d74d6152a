-- What a view shows of the section that was checked.
use Rattle.std.specs.Prelude.{◌≡◌, ◌≤◌, ℕ, List, length}
use Rattle.sf_model.specs.declared.machine.Arch.{Arch}
use Rattle.sf_model.specs.declared.function.Func.{Func}
use Rattle.sf_model.specs.declared.function.FuncHead.{FuncHead}
use Rattle.sf_model.specs.declared.rows.Row.{Row}
use Rattle.sf_model.specs.RowBytes.{StandsAt}
use Rattle.sf_model.specs.Section.{AreBytes}
use Rattle.sf_model.specs.Table.{Table}
use Rattle.sf_decode.specs.declared.iter.RowIter.{RowIter}
use Rattle.sf_decode.specs.declared.view.View.{View}
use Rattle.sf_decode.specs.Row.{rows_in}
use Rattle.sf_decode.specs.Entry.{entry_place, function_in}
use Rattle.sf_decode.specs.Decoding.{table_in}

-- the bytes of the whole section
abbrev pub section_bytes : View → List ℕ
section_bytes view = view.bytes.now

-- the section's address
abbrev pub section_address : View → ℕ
section_address view = view.at

-- the table that the section describes
abbrev pub table_of : View → Table
table_of view = table_in view.bytes.now view.at

-- the function of the entry with a number
abbrev pub function_of : View → (i : ℕ) → Func
function_of view i = function_in view.bytes.now view.at (entry_place view.bytes.now i)

-- a function without its rows
abbrev pub head_of : Func → FuncHead
head_of f = record { start = f.start; size = f.size; shape = f.shape; key = f.key; rows = length f.rows }

-- the rows that an iterator has left
abbrev pub rows_left : RowIter → List Row
rows_left it = rows_in it.arch it.rows.now it.start_width it.place it.left

-- this many rows of this machine are left, whose starts have this width, and their bytes begin with these
pub record AreSpelled (it : RowIter) (arch : Arch) (start_width count : ℕ) (bytes : List ℕ) : Type 0 where
  pub arch_is : it.arch ≡ arch
  pub width_is : it.start_width ≡ start_width
  pub count_is : it.left ≡ count
  pub are_bytes : AreBytes it.rows.now
  pub within : it.place ≤ length it.rows.now
  pub stand : StandsAt it.rows.now it.place bytes
