use Rattle.sf_write.proofs.NumbersFit.{some_section}
use Rattle.sf_write.proofs.laws.functions_that_fit_have_a_section.Goals as goal

pub returns : goal.returns
returns c = some_section
