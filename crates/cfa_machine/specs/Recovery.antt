-- What a row recovers of the caller's frame (DWARF 5, section 6.4.1): the canonical frame address, and the caller's
-- values of the function's return address column, the frame pointer and the stack pointer, each by the rule that the row has
-- for that register. Offsets are plain integers of any size, and addresses are taken modulo 2^64. There is no value where the
-- rules leave it undefined.
use Rattle.std.specs.Prelude.{ℕ, ℤ, ◌==◌, List, Option, Some, None, if◌then◌else◌}
use Rattle.std.specs.Option.{option_map}
use Rattle.sf_model.specs.declared.machine.Arch.{Arch}
use Rattle.sf_model.specs.declared.machine.Key.{Key}
use Rattle.sf_model.specs.declared.recovery.Regs.{Regs}
use Rattle.sf_model.specs.Memory.{Region}
use Rattle.sf_model.specs.Recovery.{Value, Known, moved, saved_at, key_if_signed}
use Rattle.cfa_machine.specs.declared.rule.CfaRule.{CfaRule}
use Rattle.cfa_machine.specs.declared.rule.CfaRule.TheVariants as cfa
use Rattle.cfa_machine.specs.declared.rule.Rule.{Rule}
use Rattle.cfa_machine.specs.declared.rule.Rule.TheVariants as rule
use Rattle.cfa_machine.specs.FullRow.{FullRow, rule_of}
use Rattle.cfa_machine.specs.Registers.{stack_pointer, frame_pointer, is_link_register}

-- what a row recovers of the caller's frame
pub record RuleRecovery : Type 0 where
  -- the canonical frame address
  pub frame_address : Option ℕ
  -- the caller's value of the return address column
  pub return_address : Option Value
  pub frame_pointer : Option Value
  pub stack_pointer : Option Value
  -- the key that signed the return address, if it is signed
  pub signed : Option Key

-- the present value of the register that the canonical frame address counts from: of the stack pointer and the frame pointer
abbrev pub register_value : Arch → (register : ℕ) → Regs → Option ℕ
register_value arch register regs =
    if register == stack_pointer arch then Some regs.sp else (if register == frame_pointer arch then Some regs.fp else None)

-- the canonical frame address
abbrev pub frame_address_by : Arch → CfaRule → Regs → Option ℕ
frame_address_by arch cfa.Missing regs = None
frame_address_by arch cfa.Expression regs = None
frame_address_by arch (cfa.Reg register offset) regs = option_map (λ (base : ℕ). moved base offset) (register_value arch register regs)

-- A register's value by a rule. Without a rule it is as the machine's calling convention has it (`by_convention`), and `same value`
-- gives the present one. `offset` gives what is saved there from the canonical frame address, and `val_offset` that address itself. A
-- value that is in another register, or that an expression gives, isn't recovered.
abbrev pub value_by : List Region → (frame_address : Option ℕ) → (by_convention present : Option Value) → Rule → Option Value
value_by memory frame_address by_convention present rule.Missing = by_convention
value_by memory frame_address by_convention present rule.Same = present
value_by memory frame_address by_convention present (rule.Offset offset) = option_map (λ (address : ℕ). saved_at memory (moved address offset)) frame_address
value_by memory frame_address by_convention present (rule.ValOffset offset) = option_map (λ (address : ℕ). Known (moved address offset)) frame_address
value_by memory frame_address by_convention present rule.Undefined = None
value_by memory frame_address by_convention present (rule.Register register) = None
value_by memory frame_address by_convention present rule.Expression = None
value_by memory frame_address by_convention present rule.ValExpression = None

-- The present value of a register: the stack pointer's, the frame pointer's and, on AArch64, the link register's (x30). The column
-- of the return address on AMD64 is no register, and of all others no value is known.
abbrev pub present_value : Arch → (register : ℕ) → Regs → Option Value
present_value arch register regs =
    if register == stack_pointer arch then Some (Known regs.sp)
    else if register == frame_pointer arch then Some (Known regs.fp)
    else if is_link_register arch register then Some (Known regs.lr)
    else None

-- The caller's value of a register, by the rule that a row has for it. Without one the stack pointer's is the canonical frame address,
-- and others keep their values (System V AMD64 psABI and the procedure call standard of AArch64: registers that are preserved over
-- calls).
abbrev pub caller_value : Arch → FullRow → Regs → List Region → (frame_address : Option ℕ) → (register : ℕ) → Option Value
caller_value arch row regs memory frame_address register =
    let present = present_value arch register regs in
    let by_convention = if register == stack_pointer arch then option_map Known frame_address else present in
    value_by memory frame_address by_convention present (rule_of register row.rules)

-- what a row recovers, where this is the canonical frame address
abbrev pub recovery_from : Arch → (return_column : ℕ) → FullRow → Key → Regs → List Region → (frame_address : Option ℕ) → RuleRecovery
recovery_from arch return_column row key regs memory frame_address = record {
  frame_address = frame_address;
  return_address = caller_value arch row regs memory frame_address return_column;
  frame_pointer = caller_value arch row regs memory frame_address (frame_pointer arch);
  stack_pointer = caller_value arch row regs memory frame_address (stack_pointer arch);
  signed = key_if_signed row.signed key;
}

-- what a row of a function recovers, with the function's return address column and key, the present registers and the memory
unfoldable pub recovery_by_rules : Arch → (return_column : ℕ) → FullRow → Key → Regs → List Region → RuleRecovery
recovery_by_rules arch return_column row key regs memory =
    recovery_from arch return_column row key regs memory (frame_address_by arch row.cfa regs)
