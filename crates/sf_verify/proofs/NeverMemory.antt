-- Which faults verifying returns: of the section, that two functions share an address; of the inputs, what gathering them returns.
use Rattle.std.specs.Prelude.{IsTrue}
use Rattle.std.proofs.Common.{◌≡◌, ℕ, List, Option, Some, None, refl, sym, subst}
use Rattle.sf_merge.specs.declared.located.Located.{Located}
use Rattle.sf_merge.specs.OneSection.{shared_entry}
use Rattle.sf_asm.specs.declared.fault.GatherFault.{GatherFault}
use Rattle.sf_asm.specs.declared.fault.GatherFault.TheVariants as gather
use Rattle.sf_asm.specs.Fault.{is_gather_answered}
use Rattle.sf_asm.proofs.NeverMemory.{FaultIn, any_mapped}
use Rattle.sf_verify.specs.declared.fault.VerifyFault.{VerifyFault}
use Rattle.sf_verify.specs.declared.fault.VerifyFault.TheVariants.{Overlap}
use Rattle.sf_verify.specs.FaultShown.{is_returned}
use Rattle.sf_verify.specs.Verifying.{refused, section_fault}

in_section : (bytes : List ℕ) (ordered : List Located) → FaultIn is_returned (section_fault bytes ordered)
unfolding section_fault
in_section bytes ordered = any_mapped is_returned Overlap (shared_entry bytes ordered) (λ place. refl)

pub shared_is_answered : (bytes : List ℕ) (ordered : List Located) (fault : VerifyFault) → Some fault ≡ section_fault bytes ordered → IsTrue (is_returned fault)
shared_is_answered bytes ordered fault is = subst (FaultIn is_returned) (sym is) (in_section bytes ordered)

in_inputs : (section : Option VerifyFault) (fault : GatherFault) → FaultIn is_returned section → IsTrue (is_gather_answered fault) → IsTrue (is_returned (refused section fault))
in_inputs None (gather.Input item fault) h k = k
in_inputs None (gather.MixedArch item other) h k = refl
in_inputs None gather.TooManyFunctions h k = refl
in_inputs None gather.TooManyRows h k = refl
in_inputs None (gather.Overlap start item other second) h k = refl
in_inputs None gather.NoMemory h k = refl
in_inputs (Some shared) (gather.Input item fault) h k = k
in_inputs (Some shared) (gather.MixedArch item other) h k = refl
in_inputs (Some shared) gather.TooManyFunctions h k = refl
in_inputs (Some shared) gather.TooManyRows h k = refl
in_inputs (Some shared) (gather.Overlap start item other second) h k = h
in_inputs (Some shared) gather.NoMemory h k = refl

pub refused_is_answered : (bytes : List ℕ) (ordered : List Located) (section : Option VerifyFault) (fault : GatherFault) → section ≡ section_fault bytes ordered → IsTrue (is_gather_answered fault) → IsTrue (is_returned (refused section fault))
refused_is_answered bytes ordered section fault is h = in_inputs section fault (subst (FaultIn is_returned) (sym is) (in_section bytes ordered)) h
