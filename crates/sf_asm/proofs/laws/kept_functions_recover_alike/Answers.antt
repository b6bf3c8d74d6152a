use Rattle.sf_asm.proofs.Agreeing.{recovers_by_dwarf}
use Rattle.sf_asm.proofs.laws.kept_functions_recover_alike.Goals as goal

pub returns : goal.returns
returns c = recovers_by_dwarf
