use Rattle.sample_walk.proofs.Going.{from_state}
use Rattle.sample_walk.proofs.laws.goes_on_from_its_state.Goals as goal

pub returns : goal.returns
returns c = from_state
