-- GNU SFrame specification, Version 2, function descriptor entries: functions of several sections, with a head for each
-- and their rows stored in one list.
use Rattle.std.specs.Prelude.{◌≡◌, ◌<◌, ℕ, true, List, [], All, map, length, Option, Some, None}
use Rattle.std.specs.List.{filter_map}
use Rattle.sf_model.specs.declared.machine.Arch.{Arch}
use Rattle.sf_model.specs.declared.function.Func.{Func}
use Rattle.sf_model.specs.declared.function.FuncHead.{FuncHead}
use Rattle.sf_model.specs.Function.{IsWritable}
use Rattle.sf_model.specs.Union.{is_of_use}
use Rattle.sf_write.specs.declared.stored.StoredFunction.{StoredFunction}
use Rattle.sf_write.specs.declared.stored.StoredRows.{StoredRows}
use Rattle.sf_write.specs.Stored.{IsStored, stored_in}
use Rattle.sf_merge.specs.declared.fault.MergeFault.{MergeFault}
use Rattle.sf_merge.specs.declared.fault.MergeFault.TheVariants.{Overlap}
use Rattle.sf_merge.specs.declared.head.StoredOrEmpty.{StoredOrEmpty}
use Rattle.sf_merge.specs.declared.head.StoredOrEmpty.TheVariants.{WithRows, WithoutRows}
use Rattle.sf_merge.specs.declared.head.LocatedFunction.{LocatedFunction}
use Rattle.sf_merge.specs.declared.located.Located.{Located}

-- the function without its rows
abbrev pub plain_head : StoredOrEmpty → FuncHead
plain_head (WithRows f) = f.head
plain_head (WithoutRows head) = head

-- the function's first address
abbrev pub head_start : LocatedFunction → ℕ
head_start h = (plain_head h.head).start

-- the function's size in bytes
abbrev pub head_size : LocatedFunction → ℕ
head_size h = (plain_head h.head).size

-- the function with its rows
abbrev pub function_of_head : StoredRows → StoredOrEmpty → Func
function_of_head rows (WithRows f) = stored_in rows f
function_of_head rows (WithoutRows head) = record { start = head.start; size = head.size; shape = head.shape; key = head.key; rows = [] }

-- the function with its rows, its section and its entry
abbrev pub located_in : StoredRows → LocatedFunction → Located
located_in rows h = record { func = function_of_head rows h.head; item = h.item; number = h.number }

-- all functions with their rows
abbrev pub all_in : StoredRows → List LocatedFunction → List Located
all_in rows heads = map (located_in rows) heads

-- the function has no rows; or its rows are stored, and it holds an address
abbrev pub RowsAreStored : StoredRows → StoredOrEmpty → Type 0
RowsAreStored rows (WithRows f) = IsStored rows f × (is_of_use (stored_in rows f) ≡ true)
RowsAreStored rows (WithoutRows head) = Unit {0}

-- the same holds for each of the functions
abbrev pub AllRowsAreStored : StoredRows → List LocatedFunction → Type 0
AllRowsAreStored rows heads = All (λ (h : LocatedFunction). RowsAreStored rows h.head) heads

-- where the function has rows, a section of this machine can hold it
abbrev pub IsStorable : Arch → Func → Type 0
IsStorable arch f = 0 < length f.rows → IsWritable arch f

-- these are the heads of these functions
pub record AreHeads (heads : List LocatedFunction) (ordered : List Located) : Type 0 where
  pub rows : StoredRows
  pub are : ordered ≡ all_in rows heads

-- the stored function of a head, if it has rows
abbrev pub stored_head : StoredOrEmpty → Option StoredFunction
stored_head (WithRows f) = Some f
stored_head (WithoutRows head) = None

-- the same of a function of a section
abbrev pub stored_at : LocatedFunction → Option StoredFunction
stored_at h = stored_head h.head

-- the stored functions of those heads that have rows, in order
abbrev pub stored_heads : List LocatedFunction → List StoredFunction
stored_heads heads = filter_map stored_at heads

-- the fault of two functions that share an address
abbrev pub shared_by_heads : LocatedFunction × LocatedFunction → MergeFault
shared_by_heads pair = Overlap (head_start pair.0) pair.0.item (head_start pair.1) pair.1.item
