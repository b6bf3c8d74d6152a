-- One pass over a function's instructions, with the columns alone: the rows, each from the offset of an advance
-- to the next, or the first fault.
use Rattle.std.specs.Prelude.{◌<◌, ℕ, ℤ, ◌+◌, ◌*◌, ◌-◌, ◌^◌, min, ◌&&◌, nat_lt, List, [], ◌∷◌, length, reverse, Option, Some, None, Result, Ok, Err, if◌then◌else◌}
use Rattle.arrayvec.specs.ArrayVec.{ArrayVec}
use Rattle.sf_model.specs.declared.machine.Arch.{Arch}
use Rattle.cfa_insn.specs.Listing.{Item}
use Rattle.cfa_machine.specs.declared.effect.Effect.{Effect}
use Rattle.cfa_machine.specs.declared.effect.Effect.TheVariants.{Row, Advance, Restore, Remember, Recall}
use Rattle.cfa_machine.specs.declared.fault.MachineFault.{MachineFault}
use Rattle.cfa_machine.specs.declared.fault.MachineFault.TheVariants.{CieInstruction, StateEmpty, StateDepth, Insn}
use Rattle.cfa_machine.specs.declared.columns.Columns.{Columns}
use Rattle.cfa_machine.specs.declared.row.DwRow.{DwRow}
use Rattle.cfa_machine.specs.declared.machine.FunctionContext.{FunctionContext}
use Rattle.cfa_machine.specs.declared.machine.Machine.{Machine}
use Rattle.cfa_machine.specs.Columns.{no_columns, changed, restored, row_from}
use Rattle.cfa_machine.specs.Effects.{effect_by}
pub use Rattle.cfa_machine.specs.Fault.{Fails, Gives}
use Rattle.sf_bytes.specs.Answers.{Is}
pub use Rattle.sf_bytes.specs.Steps.{◌>>=◌}

-- ---- the common information entry
-- the columns after one instruction
abbrev pub cie_step : Arch → ℕ → Effect → Columns → Result Columns MachineFault
cie_step arch place (Row change) c = changed arch place change c
cie_step arch place (Advance n) c = Err (CieInstruction place)
cie_step arch place (Restore r) c = Err (CieInstruction place)
cie_step arch place Remember c = Err (CieInstruction place)
cie_step arch place Recall c = Err (CieInstruction place)

-- the columns after one more item
abbrev pub cie_item_step : Arch → ℤ → Item → Columns → Result Columns MachineFault
cie_item_step arch f (Ok (place, i)) c = cie_step arch place (effect_by f i) c
cie_item_step arch f (Err e) c = Err (Insn e)

-- the columns after all items, from c on
unfoldable pub initial_columns : Arch → ℤ → Columns → List Item → Result Columns MachineFault
initial_columns arch f c [] = Ok c
initial_columns arch f c (x ∷ items) = cie_item_step arch f x c >>= λ d. initial_columns arch f d items

-- ---- the function
-- the present columns, the remembered ones, and the offset
pub record State : Type 0 where
  pub columns : Columns
  pub remembered : List Columns
  pub offset : ℕ

-- offsets are capped at the greatest u64
abbrev pub advanced : (code delta offset : ℕ) → ℕ
advanced code delta offset = min (offset + min (code * delta) (2 ^ 64 - 1)) (2 ^ 64 - 1)

-- a row ends where the offset goes on, and is one of the function's where it starts below its size
abbrev pub row_before : (size next offset : ℕ) → Columns → Option DwRow
row_before size next offset c = if nat_lt offset next && nat_lt offset size then Some (row_from offset c) else None

-- the remembered columns with these, the latest first
abbrev pub with_remembered : ℕ → Columns → List Columns → Result (List Columns) MachineFault
with_remembered place c rows = if nat_lt (length rows) 64 then Ok (c ∷ rows) else Err (StateDepth place)

-- the latest remembered columns, and those before them
abbrev pub with_recalled : ℕ → List Columns → Result (Columns × List Columns) MachineFault
with_recalled place [] = Err (StateEmpty place)
with_recalled place (c ∷ rows) = Ok (c, rows)

-- one instruction at a place: the next state, and the row that ends
abbrev pub step : FunctionContext → ℕ → Effect → State → Result (State × Option DwRow) MachineFault
step k place (Row change) s = changed k.arch place change s.columns >>= λ c. Ok (record s { columns = c }, None)
step k place (Advance n) s = Ok (record s { offset = advanced k.code_alignment_factor n s.offset }, row_before k.size (advanced k.code_alignment_factor n s.offset) s.offset s.columns)
step k place (Restore r) s = Ok (record s { columns = restored k.arch r k.initial s.columns }, None)
step k place Remember s = with_remembered place s.columns s.remembered >>= λ rows. Ok (record s { remembered = rows }, None)
step k place Recall s = with_recalled place s.remembered >>= λ x. Ok (record s { columns = x.0; remembered = x.1 }, None)

-- the row at the end, if it starts below the size
abbrev pub last_row : (size : ℕ) → State → Option DwRow
last_row size s = if nat_lt s.offset size then Some (row_from s.offset s.columns) else None

-- the rows with one that ended before them
abbrev pub with_ended : Option DwRow → List DwRow → List DwRow
with_ended None rows = rows
with_ended (Some row) rows = row ∷ rows

-- the same for an item
abbrev pub item_step : FunctionContext → ℤ → Item → State → Result (State × Option DwRow) MachineFault
item_step k f (Ok (place, i)) s = step k place (effect_by f i) s
item_step k f (Err e) s = Err (Insn e)

-- the rows that the instructions give from a state on
unfoldable pub rows_from : FunctionContext → ℤ → State → List Item → Result (List DwRow) MachineFault
rows_from k f s [] = Ok (with_ended (last_row k.size s) [])
rows_from k f s (x ∷ items) = do
  o ← item_step k f x s
  rows ← rows_from k f o.0 items
  Ok (with_ended o.1 rows)

-- both entries: the rows of a function
abbrev pub rows_by : Arch → (code : ℕ) → (factor : ℤ) → (size : ℕ) → (cie fde : List Item) → Result (List DwRow) MachineFault
rows_by arch code f size cie fde = do
  initial ← initial_columns arch f no_columns cie
  rows_from (record { arch = arch; code_alignment_factor = code; size = size; initial = initial }) f (record { columns = initial; remembered = []; offset = 0 }) fde

-- ---- what the code keeps of a state
-- the remembered columns that the code keeps, the latest first
abbrev pub latest_first : ArrayVec Columns → List Columns
latest_first stack = reverse stack.items

-- the state of a machine
abbrev pub state : Machine → State
state m = record { columns = m.columns; remembered = latest_first m.remembered; offset = m.offset }

-- ---- Inside the crate
-- the row that ends, by its start: its columns are the present ones
abbrev pub ended : Columns → Option ℕ → Option DwRow
ended c None = None
ended c (Some start) = Some (row_from start c)

-- a call gave the start of the row that ends, and left the machine, as the step does
abbrev pub MachineSteps : Machine → Result (Option ℕ) MachineFault → Result (State × Option DwRow) MachineFault → Type 0
MachineSteps new result given = Is (λ start. (state new, ended new.columns start)) result given

-- the same for a call that ends no row
abbrev pub StepsInRow : {U : Type 0} → Machine → Result U MachineFault → Result (State × Option DwRow) MachineFault → Type 0
StepsInRow new result given = Is (λ u. (state new, None)) result given

-- a row that ends starts below the size
abbrev pub StartsBelow : (size : ℕ) → Result (Option ℕ) MachineFault → Type 0
StartsBelow size (Ok (Some start)) = start < size
StartsBelow size (Ok None) = Unit {0}
StartsBelow size (Err e) = Unit {0}

-- a call left the remembered columns that are given
abbrev pub Remembers : {U : Type 0} → ArrayVec Columns → Result U MachineFault → Result (List Columns) MachineFault → Type 0
Remembers new result given = Is (λ u. latest_first new) result given

-- a call returned the columns that are given, and left those before them
abbrev pub Recalls : ArrayVec Columns → Result Columns MachineFault → Result (Columns × List Columns) MachineFault → Type 0
Recalls new result given = Is (λ c. (c, latest_first new)) result given
