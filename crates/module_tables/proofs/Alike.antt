-- A fault with another number is a refusal, a limit or out of memory as it was.
use Rattle.std.proofs.Common.{◌≡◌, ◌↔◌, ℕ, refl}
use Rattle.sf_asm.specs.declared.fault.GatherFault.{GatherFault}
use Rattle.sf_asm.specs.declared.fault.GatherFault.TheVariants as gather
use Rattle.sf_asm.specs.declared.fault.LinkFault.{LinkFault}
use Rattle.sf_asm.specs.declared.fault.LinkFault.TheVariants as link
use Rattle.sf_asm.specs.Fault.{is_answered, is_wrapped_answered}
use Rattle.module_tables.specs.Numbered.{numbered_fault, numbered_gathering}

gathering_answered : (item : ℕ) (fault : GatherFault) → is_wrapped_answered (numbered_gathering item fault) ≡ is_wrapped_answered fault
gathering_answered item (gather.Input number fault) = refl
gathering_answered item (gather.MixedArch one other) = refl
gathering_answered item gather.TooManyFunctions = refl
gathering_answered item gather.TooManyRows = refl
gathering_answered item (gather.Overlap start number other other_number) = refl
gathering_answered item gather.NoMemory = refl

pub answered_alike : (item : ℕ) (fault : LinkFault) → is_answered (numbered_fault item fault) ≡ is_answered fault
answered_alike item (link.Gather fault) = gathering_answered item fault
answered_alike item (link.OutOfReach start) = refl
answered_alike item link.NoMemory = refl

pub memory_alike : (item : ℕ) (fault : LinkFault) → (numbered_fault item fault ≡ link.NoMemory) ↔ (fault ≡ link.NoMemory)
memory_alike item (link.Gather fault) = ((λ e. cc), (λ e. cc))
memory_alike item (link.OutOfReach start) = ((λ e. e), (λ e. e))
memory_alike item link.NoMemory = ((λ e. e), (λ e. e))
