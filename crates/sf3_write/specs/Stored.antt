-- Inside the crate. What the writer goes by: the heads of stored functions, the widths of their row starts and the lengths of their ranges.
use Rattle.std.specs.Prelude.{◌+◌, ◌^◌, ◌<◌, ℕ, List, [], ◌∷◌, ◌++◌, Option, Some, None, if◌then◌else◌}
use Rattle.sf_write.specs.declared.stored.StoredFunction.{StoredFunction}
use Rattle.sf3_write.specs.Entry.{entry_bytes}
use Rattle.sf3_write.specs.Rows.{are_few}

-- the entries of consecutively numbered functions from `number` on, with consecutive data from the place on
abbrev pub stored_entries : (at number place : ℕ) → List StoredFunction → List ℕ
stored_entries at number place [] = []
stored_entries at number place (f ∷ functions) =
    entry_bytes at number place f.head.start f.head.size ++ stored_entries at (number + 1) (place + (5 + f.len)) functions

-- the start of the first function with too many rows
abbrev pub first_stored_with_too_many_rows : List StoredFunction → Option ℕ
first_stored_with_too_many_rows [] = None
first_stored_with_too_many_rows (f ∷ functions) = if are_few f.head.rows then first_stored_with_too_many_rows functions else Some f.head.start

-- the function's number of rows has room in two bytes
abbrev pub HasFewRows : StoredFunction → Type 0
HasFewRows f = f.head.rows < 2 ^ 16
