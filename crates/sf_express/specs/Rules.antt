-- What SFrame Version 2 can express of a row (GNU SFrame specification, "SFrame Frame Row Entries"), in the order in
-- which the reasons against it are checked.
use Rattle.std.specs.Prelude.{ℕ, ℤ, pos, negsuc, ◌^◌, ◌==◌, Bool, false, nat_lt, Option, Some, None, Result, Ok, Err, if◌then◌else◌}
use Rattle.sf_model.specs.declared.machine.Arch.{Arch}
use Rattle.sf_model.specs.declared.machine.Arch.TheVariants.{Amd64, Aarch64}
use Rattle.sf_model.specs.declared.machine.Base.{Base}
use Rattle.sf_model.specs.declared.machine.Base.TheVariants.{Fp, Sp}
use Rattle.sf_model.specs.declared.content.Ra.{Ra}
use Rattle.sf_model.specs.declared.content.Ra.TheVariants.{Fixed, Link, At}
use Rattle.sf_model.specs.declared.content.Content.{Content}
use Rattle.sf_model.specs.declared.omission.Reason.{Reason}
use Rattle.sf_model.specs.declared.omission.Reason.TheVariants.{NoCfa, CfaExpression, CfaRegister, CfaOffset, SpRule, RaRule, RaOffset, FpRule, FpOffset, FpWithoutRa, SignState}
use Rattle.cfa_machine.specs.declared.rule.CfaRule.{CfaRule}
use Rattle.cfa_machine.specs.declared.rule.CfaRule.TheVariants as cfa
use Rattle.cfa_machine.specs.declared.rule.Rule.{Rule}
use Rattle.cfa_machine.specs.declared.rule.Rule.TheVariants as rule
use Rattle.cfa_machine.specs.declared.row.DwRow.{DwRow}
use Rattle.cfa_machine.specs.Registers.{stack_pointer, frame_pointer}
pub use Rattle.sf_bytes.specs.Steps.{◌>>=◌}

-- whether a number fits 32 bits as two's complement
abbrev pub fits_i32 : ℤ → Bool
fits_i32 (pos n) = nat_lt n (2 ^ 31)
fits_i32 (negsuc n) = nat_lt n (2 ^ 31)

-- the number, if it fits 32 bits as two's complement
abbrev pub narrowed : ℤ → Option ℤ
narrowed z = if fits_i32 z then Some z else None

-- Inside the crate: the value, or else a reason
abbrev pub or_reason : {A : Type 0} → Reason → Option A → Result A Reason
or_reason reason (Some x) = Ok x
or_reason reason None = Err reason

-- SFrame's base register for a DWARF register, if that is the stack pointer or the frame pointer
abbrev pub base_of : Arch → ℕ → Option Base
base_of arch r = if r == stack_pointer arch then Some Sp else (if r == frame_pointer arch then Some Fp else None)

-- the canonical frame address: its base and an offset of 32 bits
abbrev pub cfa_at : Base → Option ℤ → Result (Base × ℤ) Reason
cfa_at base (Some n) = Ok (base, n)
cfa_at base None = Err CfaOffset

-- the canonical frame address, counted from the stack pointer or the frame pointer
abbrev pub cfa_from : Option Base → ℤ → Result (Base × ℤ) Reason
cfa_from (Some base) n = cfa_at base (narrowed n)
cfa_from None n = Err CfaRegister

-- the canonical frame address in SFrame's form: a base and an offset
abbrev pub cfa_content : Arch → CfaRule → Result (Base × ℤ) Reason
cfa_content arch cfa.Missing = Err NoCfa
cfa_content arch cfa.Expression = Err CfaExpression
cfa_content arch (cfa.Reg r n) = cfa_from (base_of arch r) n

-- whether a number is 0
abbrev pub is_zero : ℤ → Bool
is_zero (pos n) = n == 0
is_zero (negsuc n) = false

-- the stack pointer is the canonical frame address: it has no rule, or its value is that address plus 0
abbrev pub stack_pointer_check : Rule → Result (Unit {0}) Reason
stack_pointer_check rule.Missing = Ok tt
stack_pointer_check (rule.ValOffset n) = if is_zero n then Ok tt else Err SpRule
stack_pointer_check rule.Undefined = Err SpRule
stack_pointer_check rule.Same = Err SpRule
stack_pointer_check (rule.Offset n) = Err SpRule
stack_pointer_check (rule.Register r) = Err SpRule
stack_pointer_check rule.Expression = Err SpRule
stack_pointer_check rule.ValExpression = Err SpRule

-- whether a number is -8
abbrev pub is_minus_8 : ℤ → Bool
is_minus_8 (pos n) = false
is_minus_8 (negsuc n) = n == 7

-- a return address that is saved at an offset of 32 bits
abbrev pub return_address_at : Option ℤ → Result Ra Reason
return_address_at (Some n) = Ok (At n)
return_address_at None = Err RaOffset

-- on AMD64 the return address is saved at -8, on AArch64 at any offset or it is in the link register
abbrev pub return_address_content : Arch → Rule → Result Ra Reason
return_address_content Amd64 (rule.Offset n) = if is_minus_8 n then Ok Fixed else Err RaOffset
return_address_content Amd64 rule.Missing = Err RaRule
return_address_content Amd64 rule.Undefined = Err RaRule
return_address_content Amd64 rule.Same = Err RaRule
return_address_content Amd64 (rule.ValOffset n) = Err RaRule
return_address_content Amd64 (rule.Register r) = Err RaRule
return_address_content Amd64 rule.Expression = Err RaRule
return_address_content Amd64 rule.ValExpression = Err RaRule
return_address_content Aarch64 rule.Missing = Ok Link
return_address_content Aarch64 rule.Same = Ok Link
return_address_content Aarch64 (rule.Offset n) = return_address_at (narrowed n)
return_address_content Aarch64 rule.Undefined = Err RaRule
return_address_content Aarch64 (rule.ValOffset n) = Err RaRule
return_address_content Aarch64 (rule.Register r) = Err RaRule
return_address_content Aarch64 rule.Expression = Err RaRule
return_address_content Aarch64 rule.ValExpression = Err RaRule

-- a frame pointer that is saved at an offset of 32 bits
abbrev pub frame_pointer_at : Option ℤ → Result (Option ℤ) Reason
frame_pointer_at (Some n) = Ok (Some n)
frame_pointer_at None = Err FpOffset

-- the frame pointer is saved or keeps its value
abbrev pub frame_pointer_content : Rule → Result (Option ℤ) Reason
frame_pointer_content rule.Missing = Ok None
frame_pointer_content rule.Same = Ok None
frame_pointer_content (rule.Offset n) = frame_pointer_at (narrowed n)
frame_pointer_content rule.Undefined = Err FpRule
frame_pointer_content (rule.ValOffset n) = Err FpRule
frame_pointer_content (rule.Register r) = Err FpRule
frame_pointer_content rule.Expression = Err FpRule
frame_pointer_content rule.ValExpression = Err FpRule

-- a saved frame pointer needs a saved return address
abbrev pub frame_pointer_needs_return_address : Ra → Option ℤ → Result (Unit {0}) Reason
frame_pointer_needs_return_address Link (Some n) = Err FpWithoutRa
frame_pointer_needs_return_address Link None = Ok tt
frame_pointer_needs_return_address Fixed fp = Ok tt
frame_pointer_needs_return_address (At n) fp = Ok tt

-- on AArch64 the register of the sign state has no rule of its own
abbrev pub sign_state_check : Arch → Rule → Result (Unit {0}) Reason
sign_state_check Amd64 r = Ok tt
sign_state_check Aarch64 rule.Missing = Ok tt
sign_state_check Aarch64 rule.Undefined = Err SignState
sign_state_check Aarch64 rule.Same = Err SignState
sign_state_check Aarch64 (rule.Offset n) = Err SignState
sign_state_check Aarch64 (rule.ValOffset n) = Err SignState
sign_state_check Aarch64 (rule.Register r) = Err SignState
sign_state_check Aarch64 rule.Expression = Err SignState
sign_state_check Aarch64 rule.ValExpression = Err SignState

-- the content of a row, or the first reason against it
unfoldable pub content_of : Arch → DwRow → Result Content Reason
content_of arch row = do
  cfa ← cfa_content arch row.cfa
  _ ← stack_pointer_check row.sp
  ra ← return_address_content arch row.ra
  fp ← frame_pointer_content row.fp
  _ ← frame_pointer_needs_return_address ra fp
  _ ← sign_state_check arch row.sign
  Ok (record { base = cfa.0; cfa = cfa.1; ra = ra; fp = fp; signed = row.signed })
