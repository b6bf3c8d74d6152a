use Rattle.sf_asm.proofs.OneOrder.{one_result}
use Rattle.sf_asm.proofs.laws.linking_comes_to_one_result.Goals as goal

pub returns : goal.returns
returns c = one_result
