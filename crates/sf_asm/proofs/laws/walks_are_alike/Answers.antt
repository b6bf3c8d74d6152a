use Rattle.sf_asm.proofs.Walking.{walks_by_dwarf}
use Rattle.sf_asm.proofs.laws.walks_are_alike.Goals as goal

pub returns : goal.returns
returns c = walks_by_dwarf
