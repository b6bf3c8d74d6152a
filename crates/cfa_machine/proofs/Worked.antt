-- Worked cases of what rows recover, by computation.
use Rattle.std.proofs.Common.{refl, ◌≡◌, ℕ, pos, Bool, true, false, List, [], ◌∷◌, Some, None, Ok}
use Rattle.std.specs.Prelude.{negsuc, ◌+◌, ◌^◌}
use Rattle.sf_model.specs.declared.machine.Arch.TheVariants.{Amd64, Aarch64}
use Rattle.sf_model.specs.declared.machine.Key.TheVariants.{A, B}
use Rattle.sf_model.specs.declared.recovery.Regs.{Regs}
use Rattle.sf_model.specs.Memory.{Region, read_eight}
use Rattle.sf_model.specs.Recovery.{Known, Unreadable, moved}
use Rattle.cfa_insn.specs.Instruction.{advance_loc, offset, def_cfa, def_cfa_register, def_cfa_offset}
use Rattle.cfa_insn.specs.Listing.{Item}
use Rattle.cfa_machine.specs.declared.rule.CfaRule.{CfaRule}
use Rattle.cfa_machine.specs.declared.rule.CfaRule.TheVariants as cfa
use Rattle.cfa_machine.specs.declared.rule.Rule.{Rule}
use Rattle.cfa_machine.specs.declared.rule.Rule.TheVariants as rule
use Rattle.cfa_machine.specs.Effects.{effect_by}
use Rattle.cfa_machine.specs.FullRow.{FullRow}
use Rattle.cfa_machine.specs.RowAtOffset.{state_before, initial_by, row_at_offset}
use Rattle.cfa_machine.specs.Recovery.{recovery_by_rules}

-- 16 bytes of stack at 0x7000: the frame pointer 0x7010, and the return address 0x1005
abbrev stack : List Region
stack = record { start = 0x7000; bytes = 0x10 ∷ 0x70 ∷ 0 ∷ 0 ∷ 0 ∷ 0 ∷ 0 ∷ 0 ∷ 5 ∷ 0x10 ∷ 0 ∷ 0 ∷ 0 ∷ 0 ∷ 0 ∷ 0 ∷ [] } ∷ []

abbrev registers : (sp fp lr : ℕ) → Regs
registers sp fp lr = record { sp = sp; fp = fp; lr = lr }

-- the instructions of a function that pushes its frame pointer
abbrev initial : List Item
initial = Ok (0, def_cfa 7 8) ∷ Ok (3, offset 16 1) ∷ []

abbrev pushing : List Item
pushing =
    Ok (0, advance_loc 1) ∷ Ok (1, def_cfa_offset 16) ∷ Ok (3, offset 6 2) ∷ Ok (5, advance_loc 3) ∷ Ok (6, def_cfa_register 6)
    ∷ Ok (8, advance_loc 1) ∷ Ok (9, def_cfa 7 8) ∷ []

abbrev pushed_at : ℕ → FullRow
pushed_at o = row_at_offset 1 (negsuc 7) initial pushing o

pushed : recovery_by_rules Amd64 16 (pushed_at 4) A (registers 0x6ff0 0x7000 0) stack ≡ record {
  frame_address = Some 0x7010;
  return_address = Some (Known 0x1005);
  frame_pointer = Some (Known 0x7010);
  stack_pointer = Some (Known 0x7010);
  signed = None;
}
unfolding recovery_by_rules moved read_eight state_before initial_by effect_by
pushed = refl

-- at the function's first byte the frame pointer isn't saved yet
not_pushed : recovery_by_rules Amd64 16 (pushed_at 0) A (registers 0x9000 5 0) stack ≡ record {
  frame_address = Some 0x9008;
  return_address = Some (Unreadable 0x9000);
  frame_pointer = Some (Known 5);
  stack_pointer = Some (Known 0x9008);
  signed = None;
}
unfolding recovery_by_rules moved read_eight state_before initial_by effect_by
not_pushed = refl

-- a row with these rules of the stack pointer, the frame pointer and the return address column
abbrev row_on : (sp fp ra : ℕ) → CfaRule → (sp_rule fp_rule ra_rule : Rule) → Bool → FullRow
row_on sp fp ra cfa sp_rule fp_rule ra_rule signed = record { cfa = cfa; rules = (sp, sp_rule) ∷ (fp, fp_rule) ∷ (ra, ra_rule) ∷ []; signed = signed }

abbrev row_amd64 : CfaRule → (sp fp ra : Rule) → Bool → FullRow
row_amd64 = row_on 7 6 16

abbrev row_aarch64 : CfaRule → (sp fp ra : Rule) → Bool → FullRow
row_aarch64 = row_on 31 29 30

-- a signed return address in the link register
signed_link : recovery_by_rules Aarch64 30 (row_aarch64 (cfa.Reg 31 (pos 0)) rule.Missing rule.Same rule.Missing true) B (registers 0x7000 5 6) [] ≡ record {
  frame_address = Some 0x7000;
  return_address = Some (Known 6);
  frame_pointer = Some (Known 5);
  stack_pointer = Some (Known 0x7000);
  signed = Some B;
}
unfolding recovery_by_rules moved
signed_link = refl

-- addresses wrap, and an offset may have more than 64 bits
wrapped : recovery_by_rules Aarch64 30 (row_aarch64 (cfa.Reg 29 (negsuc 0)) rule.Same (rule.ValOffset (pos (2 ^ 64 + 3))) (rule.ValOffset (negsuc (2 ^ 65))) false) A (registers 7 0 0) [] ≡ record {
  frame_address = Some 0xffffffffffffffff;
  return_address = Some (Known 0xfffffffffffffffe);
  frame_pointer = Some (Known 2);
  stack_pointer = Some (Known 7);
  signed = None;
}
unfolding recovery_by_rules moved
wrapped = refl

-- AMD64 has no register for its return column, and other registers and expressions aren't recovered
undefined : recovery_by_rules Amd64 16 (row_amd64 (cfa.Reg 7 (pos 8)) rule.Expression (rule.Register 3) rule.Same false) A (registers 0x7000 0 0) stack ≡ record
    { frame_address = Some 0x7008; return_address = None; frame_pointer = None; stack_pointer = None; signed = None }
unfolding recovery_by_rules moved
undefined = refl

-- without a canonical frame address nothing that counts from it is recovered
no_frame_address : recovery_by_rules Amd64 16 (row_amd64 (cfa.Reg 10 (pos 8)) rule.Missing rule.Missing (rule.Offset (negsuc 7)) false) A (registers 0x7000 5 0) stack ≡ record
    { frame_address = None; return_address = None; frame_pointer = Some (Known 5); stack_pointer = None; signed = None }
unfolding recovery_by_rules moved
no_frame_address = refl

-- the return address is where the function's own column says, which needs not be the machine's
other_column : recovery_by_rules Aarch64 17 (row_on 31 29 17 (cfa.Reg 31 (pos 16)) rule.Missing rule.Missing (rule.Offset (negsuc 7)) false) A (registers 0x6ff8 5 6) stack ≡ record
    { frame_address = Some 0x7008; return_address = Some (Known 0x7010); frame_pointer = Some (Known 5); stack_pointer = Some (Known 0x7008); signed = None }
unfolding recovery_by_rules moved read_eight
other_column = refl
