use Rattle.sf_slim.proofs.OneResult.{one_result}
use Rattle.sf_slim.proofs.laws.slimming_comes_to_one_result.Goals as goal

pub returns : goal.returns
returns c = one_result
