use Rattle.sf3_model.proofs.FlexibleAlike.{flexible_alike}
use Rattle.sf3_model.proofs.laws.a_flexible_row_can_express_a_row.Goals as goal

pub returns : goal.returns
returns c = flexible_alike
