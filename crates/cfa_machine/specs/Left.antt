-- The rows of a function that are still to come, where they are made one after the other.
use Rattle.std.specs.Prelude.{◌≡◌, ◌+◌, ℕ, ℤ, Bool, true, false, List, [], ◌∷◌, length, Option, Some, None, Result, Ok, Err}
use Rattle.cfa_insn.specs.Listing.{Item}
use Rattle.cfa_insn.specs.Remaining.{items_left}
use Rattle.cfa_machine.specs.declared.columns.Columns.{Columns}
use Rattle.cfa_machine.specs.declared.fault.MachineFault.{MachineFault}
use Rattle.cfa_machine.specs.declared.machine.FunctionContext.{FunctionContext}
use Rattle.cfa_machine.specs.declared.machine.Machine.{Machine}
use Rattle.cfa_machine.specs.declared.row.DwRow.{DwRow}
use Rattle.cfa_machine.specs.declared.runner.Runner.{Runner}
use Rattle.cfa_machine.specs.Columns.{row_from}
use Rattle.cfa_machine.specs.Pass.{◌>>=◌, StartsBelow, MachineSteps, item_step, rows_from, state}

-- the rows that come, or the fault that will
abbrev pub unless_ended : Bool → Result (List DwRow) MachineFault → Result (List DwRow) MachineFault
unless_ended true rows = Ok []
unless_ended false rows = rows

-- the rows that a runner has left, or the fault that will come
abbrev pub rows_left : Runner → Result (List DwRow) MachineFault
rows_left r = unless_ended r.ended (rows_from r.context r.data_alignment_factor (state r.machine) (items_left r.insns))

-- how many steps are left at most
abbrev pub steps_if : Bool → ℕ → ℕ
steps_if true n = 0
steps_if false n = n + 1

-- how many steps a runner has left at most
abbrev pub steps_left : Runner → ℕ
steps_left r = steps_if r.ended (length (items_left r.insns))

-- the columns of the row that was given last
abbrev pub present : Runner → Columns
present r = r.machine.columns

-- no row starts there or above
abbrev pub limit : Runner → ℕ
limit r = r.context.size

-- after the row that starts there, whose columns are these
abbrev pub behind_row : ℕ → Columns → Result (List DwRow) MachineFault → Result (List DwRow) MachineFault
behind_row start c after = after >>= λ rows. Ok (row_from start c ∷ rows)

-- Inside the crate: what a call returned is the next row, or that the instructions are over, or their fault
abbrev pub Reaches : Columns → Result (Option ℕ) MachineFault → (before after end : Result (List DwRow) MachineFault) → Type 0
Reaches c (Ok (Some start)) before after end = before ≡ behind_row start c after
Reaches c (Ok None) before after end = before ≡ end
Reaches c (Err e) before after end = before ≡ Err e

-- what a call returned is the next row, or that there is no other, or the fault
abbrev pub Follows : Columns → Result (Option ℕ) MachineFault → (before after : Result (List DwRow) MachineFault) → Type 0
Follows c (Ok (Some start)) before after = before ≡ behind_row start c after
Follows c (Ok None) before after = before ≡ Ok []
Follows c (Err e) before after = before ≡ Err e

-- this holds of a row that was given
abbrev pub OnRow : Result (Option ℕ) MachineFault → (ℕ → Type 0) → Type 0
OnRow (Ok (Some start)) P = P start
OnRow (Ok None) P = Unit {0}
OnRow (Err e) P = Unit {0}

-- Inside the crate: no instruction was left, and all is as it was; or the first was run, and the others are left
abbrev pub RunsNext : FunctionContext → ℤ → (old new : Machine) → Option (Result (Option ℕ) MachineFault) → (before after : List Item) → Type 0
RunsNext k f old new None before after = (before ≡ []) × (after ≡ []) × (new ≡ old)
RunsNext k f old new (Some answer) before after = (x : Item) × (before ≡ x ∷ after) × MachineSteps new answer (item_step k f x (state old)) × StartsBelow k.size answer
