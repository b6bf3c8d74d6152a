use Rattle.std.proofs.Common.{refl}
use Rattle.sf_words.proofs.WholeFiles.{first_whole}
use Rattle.section_commands.proofs.upgrade.Upgrade.make.Goals as goal

pub bytes-requires : goal.bytes-requires
bytes-requires c = first_whole c.args.loaded.now _ _ c.section-item.result _ c.requires.items c.section-item.is refl
