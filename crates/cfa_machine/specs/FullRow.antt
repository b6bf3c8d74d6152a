-- Unwind rows, and what instructions do to them (DWARF 5, section 6.4.1 and 6.4.2): a CFA rule, a rule for each register
-- that was named, and the sign state of AArch64. Rules are in a list, the latest first.
use Rattle.std.specs.Prelude.{ℕ, ℤ, ◌==◌, Bool, not, false, List, [], ◌∷◌, if◌then◌else◌}
use Rattle.sf_model.specs.declared.machine.Arch.{Arch}
use Rattle.sf_model.specs.declared.machine.Arch.TheVariants.{Amd64, Aarch64}
use Rattle.cfa_machine.specs.declared.rule.CfaRule.{CfaRule}
use Rattle.cfa_machine.specs.declared.rule.CfaRule.TheVariants as cfa
use Rattle.cfa_machine.specs.declared.rule.Rule.{Rule}
use Rattle.cfa_machine.specs.declared.rule.Rule.TheVariants as rule
use Rattle.cfa_machine.specs.declared.effect.RowEffect.{RowEffect}
use Rattle.cfa_machine.specs.declared.effect.RowEffect.TheVariants.{Nothing, SetRule, SetCfa, SetCfaRegister, SetCfaOffset, NegateSign}
use Rattle.cfa_machine.specs.declared.columns.Columns.{Columns}
use Rattle.cfa_machine.specs.Registers.{stack_pointer, frame_pointer, return_address}

-- a row: the CFA rule, the rules of registers, and whether the return address is signed
pub record FullRow : Type 0 where
  pub cfa : CfaRule
  pub rules : List (ℕ × Rule)
  pub signed : Bool

-- the row before any instruction
abbrev pub no_row : FullRow
no_row = record { cfa = cfa.Missing; rules = []; signed = false }

-- the rule of a register
abbrev pub rule_of : ℕ → List (ℕ × Rule) → Rule
rule_of q [] = rule.Missing
rule_of q ((r, new) ∷ rules) = if r == q then new else rule_of q rules

-- a rule; without one the register keeps its value
abbrev pub or_same : Rule → Rule
or_same rule.Missing = rule.Same
or_same given = given

-- The rule of a register that is restored: that of the initial row, which may be none. Register 34 always has one then: it is the
-- sign state of AArch64, and readers of DWARF disagree on whether this resets the state. On AMD64 it is st1, which keeps its value
-- without a rule too.
abbrev pub restored_rule : ℕ → (initial : List (ℕ × Rule)) → Rule
restored_rule r initial = if r == 34 then or_same (rule_of r initial) else rule_of r initial

-- the row with a rule for a register
abbrev pub with_register_rule : ℕ → Rule → FullRow → FullRow
with_register_rule r new row = record { cfa = row.cfa; rules = (r, new) ∷ row.rules; signed = row.signed }

-- another register of the CFA alone; a CFA without one stays
abbrev pub cfa_register : ℕ → CfaRule → CfaRule
cfa_register r (cfa.Reg q n) = cfa.Reg r n
cfa_register r cfa.Missing = cfa.Missing
cfa_register r cfa.Expression = cfa.Expression

-- another offset of the CFA alone; a CFA without one stays
abbrev pub cfa_offset : ℤ → CfaRule → CfaRule
cfa_offset n (cfa.Reg r m) = cfa.Reg r n
cfa_offset n cfa.Missing = cfa.Missing
cfa_offset n cfa.Expression = cfa.Expression

-- the row after a change
abbrev pub row_after : RowEffect → FullRow → FullRow
row_after Nothing row = row
row_after (SetRule r new) row = with_register_rule r new row
row_after (SetCfa new) row = record row { cfa = new }
row_after (SetCfaRegister r) row = record row { cfa = cfa_register r row.cfa }
row_after (SetCfaOffset n) row = record row { cfa = cfa_offset n row.cfa }
row_after NegateSign row = record row { signed = not row.signed }

-- ---- what SFrame can use of a full row
-- the rule of the sign state, which AArch64 alone has
abbrev pub sign_rule : Arch → List (ℕ × Rule) → Rule
sign_rule Amd64 rules = rule.Missing
sign_rule Aarch64 rules = rule_of 34 rules

-- the columns that SFrame can use
abbrev pub columns_of : Arch → FullRow → Columns
columns_of arch row = record {
  cfa = row.cfa;
  sp = rule_of (stack_pointer arch) row.rules;
  fp = rule_of (frame_pointer arch) row.rules;
  ra = rule_of (return_address arch) row.rules;
  sign = sign_rule arch row.rules;
  signed = row.signed;
}
