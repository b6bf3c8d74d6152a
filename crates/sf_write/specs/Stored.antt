-- GNU SFrame specification, Version 2, frame row entries: functions whose rows are kept as the bytes that a section
-- will hold, in one list of bytes for many functions. Each function has a range of the list.
use Rattle.std.specs.Prelude.{◌≡◌, ◌+◌, ◌≤◌, ◌++◌, ℕ, Bool, IsTrue, All, Option, Some, None, List, [], ◌∷◌, length, take, drop, sum_by, if◌then◌else◌}
use Rattle.sf_model.specs.declared.function.Func.{Func}
use Rattle.sf_model.specs.declared.rows.Row.{Row}
use Rattle.sf_model.specs.Content.{content_fits}
use Rattle.sf_model.specs.Function.{RowsRise}
use Rattle.sf_model.specs.Width.{holds_unsigned}
use Rattle.sf_model.specs.Tight.{last_start}
use Rattle.sf_decode.specs.Row.{rows_in}
use Rattle.sf_write.specs.declared.stored.StoredRows.{StoredRows}
use Rattle.sf_write.specs.declared.stored.StoredFunction.{StoredFunction}
use Rattle.sf_write.specs.Entry.{entry_bytes}
use Rattle.sf_write.specs.Reach.{is_in_reach}
use Rattle.sf_write.specs.Room.{head_fits, rows_fit}
use Rattle.sf_write.specs.Row.{rows_bytes, start_width}

-- the bytes of the function's range
abbrev pub range_of : StoredRows → StoredFunction → List ℕ
range_of rows f = take f.len (drop f.place rows.bytes.items)

-- the function: its head, and as many rows as the head's count, read from these bytes by the function's width of row
-- starts
unfoldable pub function_by : StoredFunction → List ℕ → Func
function_by f bytes = record {
  start = f.head.start;
  size = f.head.size;
  shape = f.head.shape;
  key = f.head.key;
  rows = rows_in f.arch bytes f.width 0 f.head.rows;
}

-- the function with the rows of its range
unfoldable pub stored_in : StoredRows → StoredFunction → Func
stored_in rows f = function_by f (range_of rows f)

-- These bytes are those of the function's rows in a section, and the width of its row starts is the one there. The
-- widths have room for all its numbers. The rows rise, and the machine has their contents.
pub record IsSpelled (f : StoredFunction) (bytes : List ℕ) : Type 0 where
  pub rows : bytes ≡ rows_bytes (function_by f bytes).rows
  pub width : f.width ≡ start_width (function_by f bytes).rows
  pub starts_fit : IsTrue (holds_unsigned (last_start (function_by f bytes).rows) f.width)
  pub offsets_fit : IsTrue (rows_fit (function_by f bytes))
  pub rise : RowsRise (function_by f bytes).rows
  pub contents_fit : All (λ (row : Row). IsTrue (content_fits f.arch row.content)) (function_by f bytes).rows

-- the function's range lies within the bytes, and its rows are spelled there
pub record IsStored (rows : StoredRows) (f : StoredFunction) : Type 0 where
  pub within : f.place + f.len ≤ length rows.bytes.items
  pub spelled : IsSpelled f (range_of rows f)

-- What the writer goes by: the heads of stored functions, the widths of their row starts and the lengths of their ranges.

-- ---- Inside the crate
-- how many rows the functions have
abbrev pub stored_count : List StoredFunction → ℕ
stored_count functions = sum_by (λ (f : StoredFunction). f.head.rows) functions

-- how many bytes the rows of the functions are
abbrev pub stored_len : List StoredFunction → ℕ
stored_len functions = sum_by (λ (f : StoredFunction). f.len) functions

-- the entries of consecutively numbered functions from `number` on, with consecutive rows from the place on
abbrev pub stored_entries : (at number place : ℕ) → List StoredFunction → List ℕ
stored_entries at number place [] = []
stored_entries at number place (f ∷ functions) =
    entry_bytes at number place f.width f.head ++ stored_entries at (number + 1) (place + f.len) functions

-- the first start that is out of reach
abbrev pub first_stored_out_of_reach : (at number : ℕ) → List StoredFunction → Option ℕ
first_stored_out_of_reach at number [] = None
first_stored_out_of_reach at number (f ∷ functions) =
    if is_in_reach at number f.head.start then first_stored_out_of_reach at (number + 1) functions else Some f.head.start

-- the numbers of a head have room in an entry
abbrev pub stored_fits : StoredFunction → Bool
stored_fits f = head_fits f.head

-- the width of the row starts is valid
abbrev pub HasWidth : StoredFunction → Type 0
HasWidth f = f.width ≤ 2
