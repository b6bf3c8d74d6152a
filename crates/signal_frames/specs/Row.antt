-- The rules of a signal frame in the rows of its function (DWARF 5, sections 6.4.1 and 6.4.2).
use Rattle.std.specs.Prelude.{◌≡◌, ◌⊎◌}
use Rattle.sf_model.specs.declared.machine.Arch.TheVariants.{Amd64}
use Rattle.cfa_machine.specs.declared.rule.CfaRule.TheVariants as cfa
use Rattle.cfa_machine.specs.declared.rule.Rule.TheVariants as rule
use Rattle.cfa_machine.specs.FullRow.{FullRow, rule_of}
use Rattle.cfa_machine.specs.Registers.{frame_pointer, return_address, stack_pointer}

-- in the row of AMD64 the canonical frame address, the return address and the frame pointer have expressions, and the stack pointer has one
-- or no rule
pub record HasExpressions (row : FullRow) : Type 0 where
  pub cfa : row.cfa ≡ cfa.Expression
  pub return_address : rule_of (return_address Amd64) row.rules ≡ rule.Expression
  pub frame_pointer : rule_of (frame_pointer Amd64) row.rules ≡ rule.Expression
  pub stack_pointer : (rule_of (stack_pointer Amd64) row.rules ≡ rule.Missing) ⊎ (rule_of (stack_pointer Amd64) row.rules ≡ rule.Expression)
