use Rattle.elf_place.specs.Views.{placing}
use Rattle.elf_reloc.proofs.Inside.{reads_inside}
use Rattle.elf_reloc.proofs.relocs.Relocs.new.Goals as goal

pub returns-clause-inside : goal.returns-clause-inside
returns-clause-inside c = reads_inside (placing c.args.placed.now) c.args.section _ _ c.in_ok-read.ensures c.in_ok-bring_into_order.ensures.order.moved
