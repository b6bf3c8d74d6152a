use Rattle.eh_records.proofs.FirstEntry.{yields_frame}
use Rattle.eh_records.proofs.iter.FdeIterIterator.next.Goals as goal

pub returns-clause-steps : goal.returns-clause-steps
returns-clause-steps c = yields_frame _ _ _ c.frame_of.result c.frame_of.ensures.is c.in_ok-raw.ensures.gives.1
