use Rattle.std.proofs.Common.{true, refl}
use Rattle.sf_words.specs.Items.{is_core}
use Rattle.sf_words.proofs.WholeFiles.{first_whole, second_tested}
use Rattle.section_commands.proofs.walk.Walk.make.Goals as goal

pub bytes-requires : goal.bytes-requires
bytes-requires c = first_whole c.args.loaded.now _ _ c.section-item.result _ c.requires.items c.section-item.is refl

pub core-requires : goal.core-requires
core-requires c = second_tested is_core true c.args.loaded.now _ _ _ c.core-item.result _ c.requires.items c.core-item.is refl
