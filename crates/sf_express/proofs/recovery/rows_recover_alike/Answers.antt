use Rattle.sf_express.proofs.Alike.{columns_alike, recovers_alike}
use Rattle.sf_express.proofs.recovery.rows_recover_alike.Goals as goal

pub returns : goal.returns
returns c = record { rows = recovers_alike; columns = columns_alike }
