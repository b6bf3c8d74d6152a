use Rattle.sample_walk.proofs.Going.{past_stops}
use Rattle.sample_walk.proofs.laws.goes_on_past_stops.Goals as goal

pub returns : goal.returns
returns c = past_stops
