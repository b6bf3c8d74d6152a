use Rattle.sf_verify.proofs.OneVerdict.{one_result}
use Rattle.sf_verify.proofs.laws.verifying_comes_to_one_result.Goals as goal

pub returns : goal.returns
returns c = one_result
