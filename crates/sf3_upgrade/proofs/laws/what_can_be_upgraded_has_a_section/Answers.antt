use Rattle.sf3_upgrade.proofs.SomeUpgraded.{some_upgraded}
use Rattle.sf3_upgrade.proofs.laws.what_can_be_upgraded_has_a_section.Goals as goal

pub returns : goal.returns
returns c = some_upgraded
