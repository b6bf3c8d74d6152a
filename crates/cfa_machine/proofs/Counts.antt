-- The remembered rows are as many as the counts of the instructions say.
use Rattle.std.specs.Prelude.{count_by}
use Rattle.std.proofs.Common.{◌≡◌, ℕ, ℤ, ◌+◌, ◌-◌, ◌==◌, Bool, true, false, cond, List, [], ◌∷◌, ◌++◌, length, Option, Some, None, Ok, refl, sym, ap, subst, ◌∙◌, arith}
use Rattle.std.proofs.lemmas.List.Sums.{sum_by_push}
use Rattle.sf_model.specs.declared.machine.Arch.{Arch}
use Rattle.cfa_insn.specs.Instruction.{Instruction, advance_loc, offset, restore, nop, advance_loc_n, offset_extended, restore_extended, undefined, same_value, in_register, remember_state, restore_state, def_cfa, def_cfa_register, def_cfa_offset, def_cfa_expression, expression, offset_extended_sf, def_cfa_sf, def_cfa_offset_sf, val_offset, val_offset_sf, val_expression, negate_ra_state, args_size}
use Rattle.cfa_insn.specs.Listing.{Item}
use Rattle.cfa_machine.specs.declared.effect.Effect.{Effect}
use Rattle.cfa_machine.specs.declared.effect.Effect.TheVariants.{Row, Advance, Restore, Remember, Recall}
use Rattle.cfa_machine.specs.declared.fault.MachineFault.{MachineFault}
use Rattle.cfa_machine.specs.declared.fault.MachineFault.TheVariants.{StateEmpty, StateDepth}
use Rattle.cfa_machine.specs.Effects.{effect_by}
use Rattle.cfa_machine.specs.FullRow.{FullRow}
use Rattle.cfa_machine.specs.RowAtOffset.{UnwindState, recalled, after_instruction}
use Rattle.cfa_machine.specs.FirstFault.{is_remember, is_recall, depth_after, run_fault}

-- the state has as many remembered rows as the instructions before it leave
abbrev pub IsCounted : List Item → List FullRow → Type 0
IsCounted before rows = length rows + count_by is_recall before ≡ count_by is_remember before

pub depth_is : (before : List Item) (rows : List FullRow) → IsCounted before rows → depth_after before ≡ length rows
depth_is before rows h = omega (arith, h)

-- ---- the two instructions are those of the two effects
abbrev remembers : Effect → Bool
remembers (Row change) = false
remembers (Advance n) = false
remembers (Restore r) = false
remembers Remember = true
remembers Recall = false

abbrev recalls : Effect → Bool
recalls (Row change) = false
recalls (Advance n) = false
recalls (Restore r) = false
recalls Remember = false
recalls Recall = true

abbrev IsBy : Effect → Item → Type 0
IsBy effect x = (is_remember x ≡ remembers effect) × (is_recall x ≡ recalls effect)

by_effect : (f : ℤ) (place : ℕ) (i : Instruction) → IsBy (effect_by f i) (Ok (place, i))
unfolding effect_by
by_effect f place (advance_loc n) = (refl, refl)
by_effect f place (offset r n) = (refl, refl)
by_effect f place (restore r) = (refl, refl)
by_effect f place nop = (refl, refl)
by_effect f place (advance_loc_n n) = (refl, refl)
by_effect f place (offset_extended r n) = (refl, refl)
by_effect f place (restore_extended r) = (refl, refl)
by_effect f place (undefined r) = (refl, refl)
by_effect f place (same_value r) = (refl, refl)
by_effect f place (in_register r q) = (refl, refl)
by_effect f place remember_state = (refl, refl)
by_effect f place restore_state = (refl, refl)
by_effect f place (def_cfa r n) = (refl, refl)
by_effect f place (def_cfa_register r) = (refl, refl)
by_effect f place (def_cfa_offset n) = (refl, refl)
by_effect f place (def_cfa_expression b) = (refl, refl)
by_effect f place (expression r b) = (refl, refl)
by_effect f place (offset_extended_sf r z) = (refl, refl)
by_effect f place (def_cfa_sf r z) = (refl, refl)
by_effect f place (def_cfa_offset_sf z) = (refl, refl)
by_effect f place (val_offset r n) = (refl, refl)
by_effect f place (val_offset_sf r z) = (refl, refl)
by_effect f place (val_expression r b) = (refl, refl)
by_effect f place negate_ra_state = (refl, refl)
by_effect f place (args_size n) = (refl, refl)

pushed : (p : Item → Bool) (before : List Item) (x : Item) (b : Bool) → p x ≡ b → count_by p (before ++ x ∷ []) ≡ count_by p before + cond b 1 0
pushed p before x b e = sum_by_push (λ (y : Item). cond (p y) 1 0) before x ∙ ap (λ (c : Bool). count_by p before + cond c 1 0) e

-- ---- one instruction
none_is_some : (e : MachineFault) → Some e ≡ None → ⊥
none_is_some e h = cc

recall_counts : (initial : FullRow) (place : ℕ) (before after : List Item) (rows : List FullRow) (s : UnwindState) → IsCounted before rows
    → count_by is_remember after ≡ count_by is_remember before + 0 → count_by is_recall after ≡ count_by is_recall before + 1
    → cond (depth_after before == 0) (Some (StateEmpty place)) None ≡ None → IsCounted after (recalled rows s).remembered
recall_counts initial place before after [] s h one two none =
    let zero : depth_after before ≡ 0 = depth_is before [] h in
    absurd (none_is_some (StateEmpty place) (subst (λ (n : ℕ). cond (n == 0) (Some (StateEmpty place)) None ≡ None) zero none))
recall_counts initial place before after (row ∷ rows) s h one two none = omega (arith, h, one, two)

effect_counts : (arch : Arch) (initial : FullRow) (place : ℕ) (effect : Effect) (s : UnwindState) (before after : List Item) → IsCounted before s.remembered
    → count_by is_remember after ≡ count_by is_remember before + cond (remembers effect) 1 0 → count_by is_recall after ≡ count_by is_recall before + cond (recalls effect) 1 0
    → run_fault arch place effect before s.row.cfa ≡ None → IsCounted after (after_instruction initial effect s).remembered
effect_counts arch initial place (Row change) s before after h one two none = omega (arith, h, one, two)
effect_counts arch initial place (Advance n) s before after h one two none = omega (arith, h, one, two)
effect_counts arch initial place (Restore r) s before after h one two none = omega (arith, h, one, two)
effect_counts arch initial place Remember s before after h one two none = omega (arith, h, one, two)
effect_counts arch initial place Recall s before after h one two none = recall_counts initial place before after s.remembered s h one two none

pub stays_counted : (arch : Arch) (f : ℤ) (initial : FullRow) (place : ℕ) (i : Instruction) (s : UnwindState) (before : List Item) → IsCounted before s.remembered
    → run_fault arch place (effect_by f i) before s.row.cfa ≡ None → IsCounted (before ++ Ok (place, i) ∷ []) (after_instruction initial (effect_by f i) s).remembered
stays_counted arch f initial place i s before h none =
    let by = by_effect f place i in
    effect_counts arch initial place (effect_by f i) s before (before ++ Ok (place, i) ∷ []) h
    (pushed is_remember before (Ok (place, i)) (remembers (effect_by f i)) by.0) (pushed is_recall before (Ok (place, i)) (recalls (effect_by f i)) by.1) none
