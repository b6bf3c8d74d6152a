use Rattle.sf_merge.proofs.OneOrder.{one_result}
use Rattle.sf_merge.proofs.laws.merging_comes_to_one_result.Goals as goal

pub returns : goal.returns
returns c = one_result
