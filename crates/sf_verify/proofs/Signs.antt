-- On a machine without signed return addresses no row that instructions give without a fault is signed.
use Rattle.std.specs.Prelude.{IsTrue, All, nat_lt}
use Rattle.std.proofs.Common.{◌≡◌, ℕ, ℤ, Bool, true, false, cond, List, [], ◌∷◌, ◌++◌, Option, Some, None, Ok, Err, refl, subst, sym}
use Rattle.std.proofs.lemmas.List.Elements.{All-nil, All-cons, All-head, All-tail}
use Rattle.sf_model.specs.declared.machine.Arch.{Arch}
use Rattle.sf_model.specs.declared.machine.Arch.TheVariants.{Amd64, Aarch64}
use Rattle.cfa_insn.specs.Listing.{Item}
use Rattle.cfa_machine.specs.declared.effect.Effect.{Effect}
use Rattle.cfa_machine.specs.declared.effect.Effect.TheVariants as effects
use Rattle.cfa_machine.specs.declared.effect.RowEffect.{RowEffect}
use Rattle.cfa_machine.specs.declared.effect.RowEffect.TheVariants.{Nothing, SetRule, SetCfa, SetCfaRegister, SetCfaOffset, NegateSign}
use Rattle.cfa_machine.specs.declared.fault.MachineFault.{MachineFault}
use Rattle.cfa_machine.specs.RowAtOffset.{UnwindState, after_instruction, state_before, initial_by, offset_behind, row_at_offset, row_defined}
use Rattle.cfa_machine.specs.Effects.{effect_by}
use Rattle.cfa_machine.specs.FirstFault.{change_fault, define_fault, first_fault, function_fault, initial_fault, or_later, run_fault}
use Rattle.cfa_machine.specs.FullRow.{FullRow, no_row, row_after}
use Rattle.cfa_machine.specs.RowList.{sign_fits}

abbrev IsUnsigned : FullRow → Type 0
IsUnsigned row = row.signed ≡ false

-- neither the present row nor a remembered one is signed
record AreUnsigned (s : UnwindState) : Type 0 where
  row : IsUnsigned s.row
  remembered : All IsUnsigned s.remembered

neither : (a b : Option MachineFault) → or_later a b ≡ None → (a ≡ None) × (b ≡ None)
neither None b e = (refl, e)
neither (Some fault) b e = cc

-- ---- one instruction
change_unsigned : (place : ℕ) (change : RowEffect) (row : FullRow) → change_fault Amd64 place change row.cfa ≡ None → IsUnsigned row → IsUnsigned (row_after change row)
change_unsigned place Nothing row e h = h
change_unsigned place (SetRule r new) row e h = h
change_unsigned place (SetCfa new) row e h = h
change_unsigned place (SetCfaRegister r) row e h = h
change_unsigned place (SetCfaOffset n) row e h = h
change_unsigned place NegateSign row e h = cc

define_unsigned : (place : ℕ) (effect : Effect) (row : FullRow) → define_fault Amd64 place effect row.cfa ≡ None → IsUnsigned row → IsUnsigned (row_defined effect row)
define_unsigned place (effects.Row change) row e h = change_unsigned place change row e h
define_unsigned place (effects.Advance n) row e h = h
define_unsigned place (effects.Restore r) row e h = h
define_unsigned place effects.Remember row e h = h
define_unsigned place effects.Recall row e h = h

recalled_unsigned : (initial row : FullRow) (remembered : List FullRow) → AreUnsigned (record { row = row; remembered = remembered })
    → AreUnsigned (after_instruction initial effects.Recall (record { row = row; remembered = remembered }))
recalled_unsigned initial row [] h = h
recalled_unsigned initial row (r ∷ rows) h = record { row = All-head IsUnsigned r rows h.remembered; remembered = All-tail IsUnsigned r rows h.remembered }

after_unsigned : (place : ℕ) (initial : FullRow) (effect : Effect) (s : UnwindState) (before : List Item) → run_fault Amd64 place effect before s.row.cfa ≡ None → AreUnsigned s → AreUnsigned (after_instruction initial effect s)
after_unsigned place initial (effects.Row change) s before e h = record { row = change_unsigned place change s.row e h.row; remembered = h.remembered }
after_unsigned place initial (effects.Advance n) s before e h = h
after_unsigned place initial (effects.Restore r) s before e h = record { row = h.row; remembered = h.remembered }
after_unsigned place initial effects.Remember s before e h = record { row = h.row; remembered = All-cons IsUnsigned s.row s.remembered h.row h.remembered }
after_unsigned place initial effects.Recall s before e h = recalled_unsigned initial s.row s.remembered h

-- ---- all instructions
initial_unsigned : (f : ℤ) (row : FullRow) (items : List Item) → initial_fault Amd64 f row items ≡ None → IsUnsigned row → IsUnsigned (initial_by f row items)
unfolding initial_fault initial_by
initial_unsigned f row [] e h = h
initial_unsigned f row (Err fault ∷ items) e h = h
initial_unsigned f row (Ok (place, i) ∷ items) e h =
    let two = neither (define_fault Amd64 place (effect_by f i) row.cfa) (initial_fault Amd64 f (row_defined (effect_by f i) row) items) e in
    initial_unsigned f (row_defined (effect_by f i) row) items two.1 (define_unsigned place (effect_by f i) row two.0 h)

run_unsigned : (initial : FullRow) (code : ℕ) (f : ℤ) (o offset : ℕ) (s : UnwindState) (before items : List Item) → function_fault Amd64 f initial s before items ≡ None → AreUnsigned s → AreUnsigned (state_before initial code f o offset s items)
unfolding function_fault state_before
run_unsigned initial code f o offset s before [] e h = h
run_unsigned initial code f o offset s before (Err fault ∷ items) e h = h
run_unsigned initial code f o offset s before (Ok (place, i) ∷ items) e h =
    let two = neither (run_fault Amd64 place (effect_by f i) before s.row.cfa) (function_fault Amd64 f initial (after_instruction initial (effect_by f i) s) (before ++ Ok (place, i) ∷ []) items) e in
    at_test (nat_lt o (offset_behind code (effect_by f i) offset))
    (run_unsigned initial code f o (offset_behind code (effect_by f i) offset) (after_instruction initial (effect_by f i) s) (before ++ Ok (place, i) ∷ []) items two.1
    (after_unsigned place initial (effect_by f i) s before two.0 h))
  where
    at_test : (b : Bool) → AreUnsigned (state_before initial code f o (offset_behind code (effect_by f i) offset) (after_instruction initial (effect_by f i) s) items)
        → AreUnsigned (cond b s (state_before initial code f o (offset_behind code (effect_by f i) offset) (after_instruction initial (effect_by f i) s) items))
    at_test true later = h
    at_test false later = later

row_unsigned : (code : ℕ) (f : ℤ) (cie fde : List Item) (o : ℕ) → first_fault Amd64 f cie fde ≡ None → IsUnsigned (row_at_offset code f cie fde o)
row_unsigned code f cie fde o e =
    let initial = initial_by f no_row cie in
    let two = neither (initial_fault Amd64 f no_row cie) (function_fault Amd64 f initial (record { row = initial; remembered = [] }) [] fde) e in
    let row = initial_unsigned f no_row cie two.0 refl in
    (run_unsigned initial code f o 0 (record { row = initial; remembered = [] }) [] fde two.1 (record { row = row; remembered = All-nil IsUnsigned })).row

-- the sign state of each row is one of the machine
pub signs_fit : (arch : Arch) (code : ℕ) (f : ℤ) (cie fde : List Item) (o : ℕ) → first_fault arch f cie fde ≡ None → IsTrue (sign_fits arch (row_at_offset code f cie fde o).signed)
signs_fit Amd64 code f cie fde o e = subst (λ (b : Bool). IsTrue (sign_fits Amd64 b)) (sym (row_unsigned code f cie fde o e)) refl
signs_fit Aarch64 code f cie fde o e = refl
