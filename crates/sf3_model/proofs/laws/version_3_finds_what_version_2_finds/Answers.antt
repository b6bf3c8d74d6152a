use Rattle.sf3_model.proofs.Alike.{alike_found, alike_recovered}
use Rattle.sf3_model.proofs.laws.version_3_finds_what_version_2_finds.Goals as goal

pub returns-clause-found : goal.returns-clause-found
returns-clause-found c = alike_found

pub returns-clause-recovered : goal.returns-clause-recovered
returns-clause-recovered c = alike_recovered
