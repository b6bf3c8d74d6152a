use Rattle.sample_walk.proofs.PartWalks.{lists_first_frames}
use Rattle.sample_walk.proofs.laws.lists_first_frames.Goals as goal

pub returns : goal.returns
returns c = lists_first_frames
