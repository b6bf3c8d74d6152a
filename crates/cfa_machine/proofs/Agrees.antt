-- The one pass over the columns agrees with the full rows, run afresh for each offset.
use Rattle.std.proofs.Common.{◌≡◌, ℕ, ℤ, ◌==◌, Bool, true, false, cond, List, [], ◌∷◌, Result, Ok, Err, refl, sym, ap, subst, ◌∙◌}
use Rattle.std.proofs.lemmas.Bool.{eqb-true}
use Rattle.sf_model.specs.declared.machine.Arch.{Arch}
use Rattle.sf_model.specs.declared.machine.Arch.TheVariants.{Amd64, Aarch64}
use Rattle.cfa_insn.specs.Listing.{Item}
use Rattle.cfa_machine.specs.declared.rule.CfaRule.{CfaRule}
use Rattle.cfa_machine.specs.declared.rule.CfaRule.TheVariants as cfa
use Rattle.cfa_machine.specs.declared.rule.Rule.{Rule}
use Rattle.cfa_machine.specs.declared.effect.RowEffect.{RowEffect}
use Rattle.cfa_machine.specs.declared.effect.RowEffect.TheVariants.{Nothing, SetRule, SetCfa, SetCfaRegister, SetCfaOffset, NegateSign}
use Rattle.cfa_machine.specs.declared.effect.Effect.{Effect}
use Rattle.cfa_machine.specs.declared.effect.Effect.TheVariants.{Row, Advance, Restore, Remember, Recall}
use Rattle.cfa_machine.specs.declared.fault.MachineFault.{MachineFault}
use Rattle.cfa_machine.specs.declared.columns.Columns.{Columns}
use Rattle.cfa_machine.specs.Columns.{with_rule, restored, changed, with_cfa_register, with_cfa_offset}
use Rattle.cfa_machine.specs.Effects.{effect_by}
use Rattle.cfa_machine.specs.Pass.{◌>>=◌, cie_step, initial_columns}
use Rattle.cfa_machine.specs.FullRow.{FullRow, rule_of, or_same, restored_rule, with_register_rule, cfa_register, cfa_offset, row_after, columns_of}
use Rattle.cfa_machine.specs.RowAtOffset.{row_defined, initial_by}

-- ---- one change
abbrev pub ChangesTo : Arch → Result Columns MachineFault → FullRow → Type 0
ChangesTo arch (Ok c) row = c ≡ columns_of arch row
ChangesTo arch (Err e) row = Unit {0}

rule_set : (arch : Arch) (r : ℕ) (new : Rule) (row : FullRow) → with_rule arch r new (columns_of arch row) ≡ columns_of arch (with_register_rule r new row)
rule_set Amd64 r new row = refl
rule_set Aarch64 r new row = refl

register_set : (arch : Arch) (place r : ℕ) (rule : CfaRule) (row : FullRow) → row.cfa ≡ rule → ChangesTo arch (with_cfa_register place r rule (columns_of arch row)) (record row { cfa = cfa_register r rule })
register_set arch place r (cfa.Reg q n) row e = refl
register_set arch place r cfa.Missing row e = tt
register_set arch place r cfa.Expression row e = tt

offset_set : (arch : Arch) (place : ℕ) (n : ℤ) (rule : CfaRule) (row : FullRow) → row.cfa ≡ rule → ChangesTo arch (with_cfa_offset place n rule (columns_of arch row)) (record row { cfa = cfa_offset n rule })
offset_set arch place n (cfa.Reg r m) row e = refl
offset_set arch place n cfa.Missing row e = tt
offset_set arch place n cfa.Expression row e = tt

pub change_agrees : (arch : Arch) (place : ℕ) (change : RowEffect) (row : FullRow) → ChangesTo arch (changed arch place change (columns_of arch row)) (row_after change row)
change_agrees arch place Nothing row = refl
change_agrees arch place (SetRule r new) row = rule_set arch r new row
change_agrees arch place (SetCfa new) row = refl
change_agrees arch place (SetCfaRegister r) row = register_set arch place r row.cfa row refl
change_agrees arch place (SetCfaOffset n) row = offset_set arch place n row.cfa row refl
change_agrees Amd64 place NegateSign row = tt
change_agrees Aarch64 place NegateSign row = refl

same_register : (r q : ℕ) (rules : List (ℕ × Rule)) (given old : Rule) → given ≡ restored_rule q rules → cond (r == q) given old ≡ cond (r == q) (restored_rule r rules) old
same_register r q rules given old is = at_test (r == q) refl
  where
    at_test : (b : Bool) → (r == q) ≡ b → cond b given old ≡ cond b (restored_rule r rules) old
    at_test true e = is ∙ ap (λ (x : ℕ). restored_rule x rules) (sym (eqb-true r q e))
    at_test false e = refl

pub restore_agrees : (arch : Arch) (r : ℕ) (initial row : FullRow) → restored arch r (columns_of arch initial) (columns_of arch row) ≡ columns_of arch (with_register_rule r (restored_rule r initial.rules) row)
restore_agrees Amd64 r initial row =
    let sp = same_register r 7 initial.rules (rule_of 7 initial.rules) (rule_of 7 row.rules) refl in
    let fp = same_register r 6 initial.rules (rule_of 6 initial.rules) (rule_of 6 row.rules) refl in
    let ra = same_register r 16 initial.rules (rule_of 16 initial.rules) (rule_of 16 row.rules) refl in
    rw (sp, fp, ra) refl
restore_agrees Aarch64 r initial row =
    let sp = same_register r 31 initial.rules (rule_of 31 initial.rules) (rule_of 31 row.rules) refl in
    let fp = same_register r 29 initial.rules (rule_of 29 initial.rules) (rule_of 29 row.rules) refl in
    let ra = same_register r 30 initial.rules (rule_of 30 initial.rules) (rule_of 30 row.rules) refl in
    let sign = same_register r 34 initial.rules (or_same (rule_of 34 initial.rules)) (rule_of 34 row.rules) refl in
    rw (sp, fp, ra, sign) refl

-- ---- the common information entry
pub define_agrees : (arch : Arch) (place : ℕ) (effect : Effect) (row : FullRow) → ChangesTo arch (cie_step arch place effect (columns_of arch row)) (row_defined effect row)
define_agrees arch place (Row change) row = change_agrees arch place change row
define_agrees arch place (Advance n) row = tt
define_agrees arch place (Restore r) row = tt
define_agrees arch place Remember row = tt
define_agrees arch place Recall row = tt

define_then : (arch : Arch) (given : Result Columns MachineFault) (between last : FullRow) (next : Columns → Result Columns MachineFault) → ChangesTo arch given between → ChangesTo arch (next (columns_of arch between)) last → ChangesTo arch (given >>= next) last
define_then arch (Ok c) between last next e h = subst (λ (d : Columns). ChangesTo arch (next d) last) (sym e) h
define_then arch (Err e) between last next h g = tt

pub initial_agrees : (arch : Arch) (f : ℤ) (row : FullRow) (items : List Item) → ChangesTo arch (initial_columns arch f (columns_of arch row) items) (initial_by f row items)
unfolding initial_columns initial_by
initial_agrees arch f row [] = refl
initial_agrees arch f row (Ok (place, i) ∷ items) = define_then arch (cie_step arch place (effect_by f i) (columns_of arch row)) (row_defined (effect_by f i) row) _ _ (define_agrees arch place (effect_by f i) row) (initial_agrees arch f (row_defined (effect_by f i) row) items)
initial_agrees arch f row (Err e ∷ items) = tt
