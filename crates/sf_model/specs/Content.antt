-- GNU SFrame specification, Version 2: which contents a frame row entry of a machine can have.
use Rattle.std.specs.Prelude.{ℤ, Bool, true, false, not, is_none, Option, Some, None, FitsSigned, ⊤}
use Rattle.std.specs.Int.{w32}
use Rattle.sf_model.specs.declared.machine.Arch.{Arch}
use Rattle.sf_model.specs.declared.machine.Arch.TheVariants.{Amd64, Aarch64}
use Rattle.sf_model.specs.declared.content.Ra.{Ra}
use Rattle.sf_model.specs.declared.content.Ra.TheVariants.{Fixed, Link, At}
use Rattle.sf_model.specs.declared.content.Content.{Content}

-- whether this is a return address of this machine's rows, with a frame pointer saved beside it or not, signed or not
abbrev pub return_fits : Arch → Ra → (fp_is_free signed : Bool) → Bool
return_fits Amd64 Fixed fp_is_free signed = not signed
return_fits Amd64 Link fp_is_free signed = false
return_fits Amd64 (At n) fp_is_free signed = false
return_fits Aarch64 Fixed fp_is_free signed = false
return_fits Aarch64 Link fp_is_free signed = fp_is_free
return_fits Aarch64 (At n) fp_is_free signed = true

-- On AMD64 the return address is at the fixed offset and unsigned. On AArch64 it is in the link register or saved, and
-- a saved frame pointer needs a saved return address.
abbrev pub content_fits : Arch → Content → Bool
content_fits arch content = return_fits arch content.ra (is_none content.fp) content.signed

-- the return address's offset is a number of 32 signed bits
abbrev pub ReturnInRange : Ra → Type 0
ReturnInRange Fixed = ⊤
ReturnInRange Link = ⊤
ReturnInRange (At offset) = FitsSigned w32 offset

-- the frame pointer's offset is a number of 32 signed bits
abbrev pub PointerInRange : Option ℤ → Type 0
PointerInRange None = ⊤
PointerInRange (Some offset) = FitsSigned w32 offset

-- all offsets are numbers of 32 signed bits
pub record OffsetsInRange (content : Content) : Type 0 where
  pub frame_address : FitsSigned w32 content.cfa
  pub return_address : ReturnInRange content.ra
  pub frame_pointer : PointerInRange content.fp
