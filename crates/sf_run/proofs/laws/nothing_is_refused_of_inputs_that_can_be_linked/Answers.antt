use Rattle.sf_run.proofs.Accepted.{accepted_refuse_nothing, nothing_refused_is_accepted}
use Rattle.sf_run.proofs.laws.nothing_is_refused_of_inputs_that_can_be_linked.Goals as goal

pub returns-clause-accepted : goal.returns-clause-accepted
returns-clause-accepted c = accepted_refuse_nothing

pub returns-clause-only : goal.returns-clause-only
returns-clause-only c = nothing_refused_is_accepted
