use Rattle.std.proofs.Common.{rules}
use Rattle.elf_place.specs.Views.{placed_file}
use Rattle.elf_reloc.proofs.GoingOn.{rel_stops, rel_goes_on, rel_ends}
use Rattle.elf_reloc.proofs.reading.check_rels.Goals as goal

pub returns-then-not-has_addends : goal.returns-then-not-has_addends
returns-then-not-has_addends c = rel_stops (placed_file c.args.placed.now) c.args.sections.now c.loop-it.it-index _ c.loop-it-test.true (search rules) c.loop-it.invariant

pub loop-it-preserved : goal.loop-it-preserved
loop-it-preserved c = rel_goes_on (placed_file c.args.placed.now) c.args.sections.now c.loop-it.it-index record { target = 0; number = 0 } c.loop-it-test.true (search rules) c.loop-it.invariant

pub returns : goal.returns
returns c = rel_ends (placed_file c.args.placed.now) c.args.sections.now c.loop-it.it-index c.loop-it-test.false c.loop-it.invariant
