use Rattle.elf_place.specs.Views.{placing}
use Rattle.frame_functions.proofs.Relocating.{relocated_read, relocated_from, relocated_refused}
use Rattle.frame_functions.proofs.overlay.read_relocs.Goals as goal

pub returns-clause-read : goal.returns-clause-read
returns-clause-read c = relocated_read (placing c.args.placed.now) c.args.section c.new.result c.new.ensures.exact

pub returns-clause-from : goal.returns-clause-from
returns-clause-from c = relocated_from (placing c.args.placed.now) c.args.section c.new.result c.new.ensures.exact

pub returns-clause-fault : goal.returns-clause-fault
returns-clause-fault c = relocated_refused (placing c.args.placed.now) c.args.section c.new.result c.new.ensures.exact
