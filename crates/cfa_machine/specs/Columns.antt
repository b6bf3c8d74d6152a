-- The part of a row that the one pass keeps.
use Rattle.std.specs.Prelude.{ℕ, ℤ, ◌==◌, not, false, Result, Ok, Err, if◌then◌else◌}
use Rattle.sf_bytes.specs.Answers.{Is}
use Rattle.sf_model.specs.declared.machine.Arch.{Arch}
use Rattle.sf_model.specs.declared.machine.Arch.TheVariants.{Amd64, Aarch64}
use Rattle.cfa_insn.specs.declared.fault.InsnFault.TheVariants.{Opcode}
use Rattle.cfa_insn.specs.Opcodes.{DW_CFA_AARCH64_negate_ra_state}
use Rattle.cfa_machine.specs.declared.rule.CfaRule.{CfaRule}
use Rattle.cfa_machine.specs.declared.rule.CfaRule.TheVariants as cfa
use Rattle.cfa_machine.specs.declared.rule.Rule.{Rule}
use Rattle.cfa_machine.specs.declared.rule.Rule.TheVariants as rule
use Rattle.cfa_machine.specs.declared.effect.RowEffect.{RowEffect}
use Rattle.cfa_machine.specs.declared.effect.RowEffect.TheVariants.{Nothing, SetRule, SetCfa, SetCfaRegister, SetCfaOffset, NegateSign}
use Rattle.cfa_machine.specs.declared.fault.MachineFault.{MachineFault}
use Rattle.cfa_machine.specs.declared.fault.MachineFault.TheVariants.{NoCfaRegister, Insn}
use Rattle.cfa_machine.specs.declared.columns.Columns.{Columns}
use Rattle.cfa_machine.specs.declared.row.DwRow.{DwRow}
use Rattle.cfa_machine.specs.Registers.{stack_pointer, frame_pointer, return_address, is_sign_state}
use Rattle.cfa_machine.specs.FullRow.{or_same}

-- the columns of the row before any instruction
abbrev pub no_columns : Columns
no_columns = record { cfa = cfa.Missing; sp = rule.Missing; fp = rule.Missing; ra = rule.Missing; sign = rule.Missing; signed = false }

-- a register has a rule
abbrev pub with_rule : Arch → ℕ → Rule → Columns → Columns
with_rule arch r new c = record {
  cfa = c.cfa;
  sp = if r == stack_pointer arch then new else c.sp;
  fp = if r == frame_pointer arch then new else c.fp;
  ra = if r == return_address arch then new else c.ra;
  sign = if is_sign_state arch r then new else c.sign;
  signed = c.signed;
}

-- a register has its initial rule again; the sign state has a rule then, also where it had none
abbrev pub restored : Arch → ℕ → (initial : Columns) → Columns → Columns
restored arch r initial c = record {
  cfa = c.cfa;
  sp = if r == stack_pointer arch then initial.sp else c.sp;
  fp = if r == frame_pointer arch then initial.fp else c.fp;
  ra = if r == return_address arch then initial.ra else c.ra;
  sign = if is_sign_state arch r then or_same initial.sign else c.sign;
  signed = c.signed;
}

-- the CFA counts from another register, where it is a register and an offset
abbrev pub with_cfa_register : ℕ → ℕ → CfaRule → Columns → Result Columns MachineFault
with_cfa_register place r (cfa.Reg q n) c = Ok (record c { cfa = cfa.Reg r n })
with_cfa_register place r cfa.Missing c = Err (NoCfaRegister place)
with_cfa_register place r cfa.Expression c = Err (NoCfaRegister place)

-- the CFA has another offset, where it is a register and an offset
abbrev pub with_cfa_offset : ℕ → ℤ → CfaRule → Columns → Result Columns MachineFault
with_cfa_offset place n (cfa.Reg r m) c = Ok (record c { cfa = cfa.Reg r n })
with_cfa_offset place n cfa.Missing c = Err (NoCfaRegister place)
with_cfa_offset place n cfa.Expression c = Err (NoCfaRegister place)

-- the sign state is inverted; AMD64 has none
abbrev pub with_sign_inverted : Arch → ℕ → Columns → Result Columns MachineFault
with_sign_inverted Amd64 place c = Err (Insn (Opcode place DW_CFA_AARCH64_negate_ra_state))
with_sign_inverted Aarch64 place c = Ok (record c { signed = not c.signed })

-- a change by the instruction at a place, or its fault
abbrev pub changed : Arch → ℕ → RowEffect → Columns → Result Columns MachineFault
changed arch place Nothing c = Ok c
changed arch place (SetRule r new) c = Ok (with_rule arch r new c)
changed arch place (SetCfa new) c = Ok (record c { cfa = new })
changed arch place (SetCfaRegister r) c = with_cfa_register place r c.cfa c
changed arch place (SetCfaOffset n) c = with_cfa_offset place n c.cfa c
changed arch place NegateSign c = with_sign_inverted arch place c

-- Inside the crate: what a call returned, and the row that it left, are what the change gives
abbrev pub Changes : {U : Type 0} → (new : Columns) → Result U MachineFault → (given : Result Columns MachineFault) → Type 0
Changes new result given = Is (λ u. new) result given

-- the row with these columns from an offset on
abbrev pub row_from : ℕ → Columns → DwRow
row_from start c = record { start = start; cfa = c.cfa; sp = c.sp; fp = c.fp; ra = c.ra; sign = c.sign; signed = c.signed }
