-- Functions that were read, whose rows are kept in one list: a head for each.
use Rattle.std.specs.Prelude.{ℕ, List, map, All, Option, Some, None}
use Rattle.std.specs.List.{filter_map}
use Rattle.sf_model.specs.declared.omission.Omitted.{Omitted}
use Rattle.sf_model.specs.declared.omission.Span.{Span}
use Rattle.sf_write.specs.declared.stored.StoredFunction.{StoredFunction}
use Rattle.sf_write.specs.declared.stored.StoredRows.{StoredRows}
use Rattle.sf_write.specs.Stored.{IsStored, stored_in}
use Rattle.frame_functions.specs.declared.read_function.ReadFunction.{ReadFunction}
use Rattle.frame_functions.specs.declared.read_function.Expressed.{Expressed}
use Rattle.frame_functions.specs.declared.read_function.Expressed.TheVariants as outcome
use Rattle.frame_functions.specs.declared.read_function.ListedFunction.{ListedFunction}
use Rattle.frame_functions.specs.declared.read_function.ListedFunction.TheVariants.{Kept, LeftOut}

-- Inside the crate: its addresses and origin
abbrev pub listed_span : ListedFunction → Span
listed_span (Kept f origin) = record { start = f.head.start; size = f.head.size; origin = origin }
listed_span (LeftOut o) = record { start = o.start; size = o.size; origin = o.origin }

-- Inside the crate: its first address
abbrev pub listed_start : ListedFunction → ℕ
listed_start h = (listed_span h).start

-- Inside the crate: what became of it
abbrev pub outcome_in : StoredRows → ListedFunction → Expressed
outcome_in rows (Kept f origin) = outcome.Kept (stored_in rows f)
outcome_in rows (LeftOut o) = outcome.LeftOut o.omission

-- Inside the crate: the function of a head, with its rows
abbrev pub read_in : StoredRows → ListedFunction → ReadFunction
read_in rows h = record { span = listed_span h; outcome = outcome_in rows h }

-- Inside the crate: the functions of all heads
abbrev pub all_read_in : StoredRows → List ListedFunction → List ReadFunction
all_read_in rows heads = map (read_in rows) heads

-- Inside the crate: the rows of a kept function are in the list
abbrev pub HasRows : StoredRows → ListedFunction → Type 0
HasRows rows (Kept f origin) = IsStored rows f
HasRows rows (LeftOut o) = Unit {0}

-- Inside the crate: the rows of all kept functions are in the list
abbrev pub HaveRows : StoredRows → List ListedFunction → Type 0
HaveRows rows heads = All (HasRows rows) heads

-- the function of a head, if it is kept
abbrev pub stored_at : ListedFunction → Option StoredFunction
stored_at (Kept f origin) = Some f
stored_at (LeftOut o) = None

-- the kept functions, in order
abbrev pub stored_of : List ListedFunction → List StoredFunction
stored_of heads = filter_map stored_at heads

-- Inside the crate: the function of a head, if it is omitted
abbrev pub left_at : ListedFunction → Option Omitted
left_at (Kept f origin) = None
left_at (LeftOut o) = Some o

-- Inside the crate: the omitted functions, in order
abbrev pub left_of : List ListedFunction → List Omitted
left_of heads = filter_map left_at heads
