use Rattle.sf_plt.proofs.Faults.{one_result}
use Rattle.sf_plt.proofs.laws.linking_tables_comes_to_one_result.Goals as goal

pub returns : goal.returns
returns c = λ before objects at one other h h'. one_result before objects at one other h h'
