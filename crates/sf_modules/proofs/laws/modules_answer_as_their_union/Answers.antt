use Rattle.sf_modules.proofs.Home.{as_the_union}
use Rattle.sf_modules.proofs.laws.modules_answer_as_their_union.Goals as goal

pub returns : goal.returns
returns c = as_the_union
