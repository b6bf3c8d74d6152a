use Rattle.sf_asm.proofs.Applying.{applied_is}
use Rattle.sf_asm.proofs.laws.relocations_of_sections_are_applied.Goals as goal

pub returns : goal.returns
returns c = λ p section fields. applied_is p section fields
