use Rattle.sf_asm.proofs.Described.{describe, described}
use Rattle.sf_asm.proofs.laws.functions_are_described.Goals as goal

pub returns : goal.returns
returns c = λ item objects r. (described item objects r, describe item objects r)
