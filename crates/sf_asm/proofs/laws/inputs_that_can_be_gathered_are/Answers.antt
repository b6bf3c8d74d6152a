use Rattle.sf_asm.proofs.Accepting.{are_gathered, gathered_can_be}
use Rattle.sf_asm.proofs.laws.inputs_that_can_be_gathered_are.Goals as goal

pub returns-clause-gathers : goal.returns-clause-gathers
returns-clause-gathers c = are_gathered

pub returns-clause-only : goal.returns-clause-only
returns-clause-only c = gathered_can_be
