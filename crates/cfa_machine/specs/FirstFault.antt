-- The first instruction that can't be read or run, the common information entry's first (DWARF 5, sections 6.4.2 and 6.4.3). It is
-- found by the CFA rule, and by counts of the instructions before it.
use Rattle.std.specs.Prelude.{ℕ, ℤ, ◌-◌, ◌==◌, nat_lt, Bool, true, false, List, [], ◌∷◌, ◌++◌, count_by, Option, Some, None, Result, Ok, Err, if◌then◌else◌}
use Rattle.sf_model.specs.declared.machine.Arch.{Arch}
use Rattle.sf_model.specs.declared.machine.Arch.TheVariants.{Amd64, Aarch64}
use Rattle.cfa_insn.specs.Instruction.{remember_state, restore_state}
use Rattle.cfa_insn.specs.Listing.{Item}
use Rattle.cfa_insn.specs.declared.fault.InsnFault.TheVariants.{Opcode}
use Rattle.cfa_insn.specs.Opcodes.{DW_CFA_AARCH64_negate_ra_state}
use Rattle.cfa_machine.specs.declared.rule.CfaRule.{CfaRule}
use Rattle.cfa_machine.specs.declared.rule.CfaRule.TheVariants as cfa
use Rattle.cfa_machine.specs.declared.effect.RowEffect.{RowEffect}
use Rattle.cfa_machine.specs.declared.effect.RowEffect.TheVariants.{Nothing, SetRule, SetCfa, SetCfaRegister, SetCfaOffset, NegateSign}
use Rattle.cfa_machine.specs.declared.effect.Effect.{Effect}
use Rattle.cfa_machine.specs.declared.effect.Effect.TheVariants.{Row, Advance, Restore, Remember, Recall}
use Rattle.cfa_machine.specs.declared.fault.MachineFault.{MachineFault}
use Rattle.cfa_machine.specs.declared.fault.MachineFault.TheVariants.{CieInstruction, StateEmpty, StateDepth, NoCfaRegister, Insn}
use Rattle.sf_model.specs.Answers.{FailsFirst}
use Rattle.cfa_machine.specs.Effects.{effect_by}
use Rattle.cfa_machine.specs.Fault.{machine_refusal}
use Rattle.cfa_machine.specs.FullRow.{FullRow, no_row}
use Rattle.cfa_machine.specs.RowAtOffset.{UnwindState, after_instruction, row_defined, initial_by}
pub use Rattle.sf_model.specs.Firsts.{or_later}

-- the fault of an instruction that sets the CFA's register or offset alone, where the CFA has none
abbrev pub unless_register : ℕ → CfaRule → Option MachineFault
unless_register place (cfa.Reg r n) = None
unless_register place cfa.Missing = Some (NoCfaRegister place)
unless_register place cfa.Expression = Some (NoCfaRegister place)

-- the fault of DW_CFA_AARCH64_negate_ra_state on AMD64, which has no sign state
abbrev pub unless_signs : Arch → ℕ → Option MachineFault
unless_signs Amd64 place = Some (Insn (Opcode place DW_CFA_AARCH64_negate_ra_state))
unless_signs Aarch64 place = None

-- the fault of a change of the row, by the CFA rule before it
abbrev pub change_fault : Arch → ℕ → RowEffect → CfaRule → Option MachineFault
change_fault arch place Nothing rule = None
change_fault arch place (SetRule r new) rule = None
change_fault arch place (SetCfa new) rule = None
change_fault arch place (SetCfaRegister r) rule = unless_register place rule
change_fault arch place (SetCfaOffset n) rule = unless_register place rule
change_fault arch place NegateSign rule = unless_signs arch place

-- ---- the common information entry
-- the fault of one instruction: those that advance, restore or remember can't define the initial row
abbrev pub define_fault : Arch → ℕ → Effect → CfaRule → Option MachineFault
define_fault arch place (Row change) rule = change_fault arch place change rule
define_fault arch place (Advance n) rule = Some (CieInstruction place)
define_fault arch place (Restore r) rule = Some (CieInstruction place)
define_fault arch place Remember rule = Some (CieInstruction place)
define_fault arch place Recall rule = Some (CieInstruction place)

-- the first fault of these instructions, from a row on
unfoldable pub initial_fault : Arch → ℤ → FullRow → List Item → Option MachineFault
initial_fault arch f row [] = None
initial_fault arch f row (Err e ∷ items) = Some (Insn e)
initial_fault arch f row (Ok (place, i) ∷ items) = or_later (define_fault arch place (effect_by f i) row.cfa) (initial_fault arch f (row_defined (effect_by f i) row) items)

-- ---- the function
-- whether an instruction is DW_CFA_remember_state
abbrev pub is_remember : Item → Bool
is_remember (Ok (place, remember_state)) = true
is_remember item = false

-- whether an instruction is DW_CFA_restore_state
abbrev pub is_recall : Item → Bool
is_recall (Ok (place, restore_state)) = true
is_recall item = false

-- how many rows are remembered after these instructions: each DW_CFA_remember_state adds one, and each DW_CFA_restore_state takes one
abbrev pub depth_after : List Item → ℕ
depth_after before = count_by is_remember before - count_by is_recall before

-- the fault of one instruction, by those before it and the CFA rule: no row is remembered that DW_CFA_restore_state could take, or
-- there are 64 already
abbrev pub run_fault : Arch → ℕ → Effect → (before : List Item) → CfaRule → Option MachineFault
run_fault arch place (Row change) before rule = change_fault arch place change rule
run_fault arch place (Advance n) before rule = None
run_fault arch place (Restore r) before rule = None
run_fault arch place Remember before rule = if nat_lt (depth_after before) 64 then None else Some (StateDepth place)
run_fault arch place Recall before rule = if depth_after before == 0 then Some (StateEmpty place) else None

-- the first fault of these instructions, where those before them gave this state
unfoldable pub function_fault : Arch → ℤ → (initial : FullRow) → UnwindState → (before : List Item) → List Item → Option MachineFault
function_fault arch f initial s before [] = None
function_fault arch f initial s before (Err e ∷ items) = Some (Insn e)
function_fault arch f initial s before (Ok (place, i) ∷ items) =
    or_later (run_fault arch place (effect_by f i) before s.row.cfa) (function_fault arch f initial (after_instruction initial (effect_by f i) s) (before ++ Ok (place, i) ∷ []) items)

-- the first fault of both entries, or none if the function runs whole
abbrev pub first_fault : Arch → ℤ → (cie fde : List Item) → Option MachineFault
first_fault arch f cie fde =
    or_later (initial_fault arch f no_row cie) (function_fault arch f (initial_by f no_row cie) (record { row = initial_by f no_row cie; remembered = [] }) [] fde)

-- a call succeeded where there is no fault, and else returned the fault, unless memory ran out
abbrev pub FailsBy : {X : Type 0} → Result X MachineFault → Option MachineFault → Type 0
FailsBy result fault = FailsFirst machine_refusal result fault
