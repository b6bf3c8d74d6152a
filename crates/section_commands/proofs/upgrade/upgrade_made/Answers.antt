use Rattle.std.proofs.Common.{sym}
use Rattle.sf_decode.specs.View.{section_bytes, table_of}
use Rattle.section_commands.proofs.UpgradeComes.{not_upgraded_comes, upgraded_comes}
use Rattle.section_commands.proofs.upgrade.upgrade_made.Goals as goal

pub returns-in_ok-text-in-Ok-upgrade : goal.returns-in_ok-text-in-Ok-upgrade
returns-in_ok-text-in-Ok-upgrade c =
    let made = c.in-Ok-upgrade.made in
    upgraded_comes c.args.from c.args.at c.args.bytes.now (section_bytes c.in-Ok.view) (table_of c.in-Ok.view) made.section.items c.in_ok-text-in-Ok-upgrade.text.items made.functions made.rows
    c.in-Ok.ensures.bytes (sym c.in-Ok.ensures.exact) c.in-Ok.ensures.sound c.in-Ok-upgrade.ensures.upgraded c.in_ok-text-in-Ok-upgrade.ensures

pub returns-in-Err-upgrade : goal.returns-in-Err-upgrade
returns-in-Err-upgrade c =
    not_upgraded_comes c.args.from c.args.at c.args.bytes.now (section_bytes c.in-Ok.view) (table_of c.in-Ok.view) c.in-Err-upgrade.fault c.not_upgraded.result
    c.in-Ok.ensures.bytes (sym c.in-Ok.ensures.exact) c.in-Ok.ensures.sound c.in-Err-upgrade.ensures.fault c.not_upgraded.ensures.memory c.not_upgraded.ensures.is
