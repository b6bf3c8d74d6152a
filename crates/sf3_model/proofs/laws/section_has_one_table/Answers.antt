use Rattle.sf3_model.proofs.TableSame.{table_same}
use Rattle.sf3_model.proofs.laws.section_has_one_table.Goals as goal

pub returns : goal.returns
returns c = table_same
