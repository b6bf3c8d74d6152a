use Rattle.signal_frames.proofs.RowRules.{has_expressions}
use Rattle.signal_frames.proofs.laws.rows_have_expressions.Goals as goal

pub returns : goal.returns
returns c = has_expressions
