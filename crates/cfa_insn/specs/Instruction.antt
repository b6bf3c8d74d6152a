-- Call frame instructions with their operands (DWARF 5, section 6.4.2, with two of the GNU and AArch64
-- extensions). A register is a number, a block is its bytes.
use Rattle.std.specs.Prelude.{ℕ, ℤ, List}
use Rattle.cfa_insn.specs.declared.insn.Insn.{Insn}
use Rattle.cfa_insn.specs.declared.insn.Insn.TheVariants as insn

-- a call frame instruction
pub data Instruction : Type 0 where
  advance_loc : (delta : ℕ) → Instruction
  offset : (register factored : ℕ) → Instruction
  restore : (register : ℕ) → Instruction
  nop : Instruction
  advance_loc_n : (delta : ℕ) → Instruction
  offset_extended : (register factored : ℕ) → Instruction
  restore_extended : (register : ℕ) → Instruction
  undefined : (register : ℕ) → Instruction
  same_value : (register : ℕ) → Instruction
  in_register : (register other : ℕ) → Instruction
  remember_state : Instruction
  restore_state : Instruction
  def_cfa : (register offset : ℕ) → Instruction
  def_cfa_register : (register : ℕ) → Instruction
  def_cfa_offset : (offset : ℕ) → Instruction
  def_cfa_expression : (block : List ℕ) → Instruction
  expression : (register : ℕ) (block : List ℕ) → Instruction
  offset_extended_sf : (register : ℕ) (factored : ℤ) → Instruction
  def_cfa_sf : (register : ℕ) (factored : ℤ) → Instruction
  def_cfa_offset_sf : (factored : ℤ) → Instruction
  val_offset : (register factored : ℕ) → Instruction
  val_offset_sf : (register : ℕ) (factored : ℤ) → Instruction
  val_expression : (register : ℕ) (block : List ℕ) → Instruction
  negate_ra_state : Instruction
  args_size : (size : ℕ) → Instruction

-- a lent instruction, apart from where its bytes are in memory
abbrev pub instruction : Insn → Instruction
instruction (insn.AdvanceLoc n) = advance_loc n
instruction (insn.Offset r n) = offset r n
instruction (insn.Restore r) = restore r
instruction insn.Nop = nop
instruction (insn.AdvanceLocN n) = advance_loc_n n
instruction (insn.OffsetExtended r n) = offset_extended r n
instruction (insn.RestoreExtended r) = restore_extended r
instruction (insn.Undefined r) = undefined r
instruction (insn.SameValue r) = same_value r
instruction (insn.Register r q) = in_register r q
instruction insn.RememberState = remember_state
instruction insn.RestoreState = restore_state
instruction (insn.DefCfa r n) = def_cfa r n
instruction (insn.DefCfaRegister r) = def_cfa_register r
instruction (insn.DefCfaOffset n) = def_cfa_offset n
instruction (insn.DefCfaExpression b) = def_cfa_expression b.now
instruction (insn.Expression r b) = expression r b.now
instruction (insn.OffsetExtendedSf r z) = offset_extended_sf r z
instruction (insn.DefCfaSf r z) = def_cfa_sf r z
instruction (insn.DefCfaOffsetSf z) = def_cfa_offset_sf z
instruction (insn.ValOffset r n) = val_offset r n
instruction (insn.ValOffsetSf r z) = val_offset_sf r z
instruction (insn.ValExpression r b) = val_expression r b.now
instruction insn.NegateRaState = negate_ra_state
instruction (insn.GnuArgsSize n) = args_size n
