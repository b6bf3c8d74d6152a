use Rattle.sf3_upgrade.proofs.Written.{one_result, one_section}
use Rattle.sf3_upgrade.proofs.laws.upgrading_comes_to_one_result.Goals as goal

pub returns-clause-result : goal.returns-clause-result
returns-clause-result c = one_result

pub returns-clause-section : goal.returns-clause-section
returns-clause-section c = one_section
