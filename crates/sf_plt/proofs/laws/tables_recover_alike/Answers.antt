use Rattle.sf_plt.proofs.Recovers.{tables_recover}
use Rattle.sf_plt.proofs.laws.tables_recover_alike.Goals as goal

pub returns : goal.returns
returns c = λ f address regs memory table holds. tables_recover f address regs memory table holds
