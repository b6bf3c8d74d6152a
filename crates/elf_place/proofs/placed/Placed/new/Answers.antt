use Rattle.std.proofs.Common.{rules}
use Rattle.elf_read.specs.Input.{file}
use Rattle.elf_place.specs.Dropped.{dropped_sections}
use Rattle.elf_place.proofs.InMemory.{addresses_lie}
use Rattle.elf_place.proofs.PlaceChecks.{place_check_is}
use Rattle.elf_place.proofs.placed.Placed.new.Goals as goal

pub returns-clause-memory : goal.returns-clause-memory
returns-clause-memory c = addresses_lie (file c.args.elf.now) _ c.args.base c.sections-count.result _ c.in_ok-addresses.ensures.value c.in_ok-addresses.ensures.exact

pub returns-in_err-check_aligns-clause-exact : goal.returns-in_err-check_aligns-clause-exact
returns-in_err-check_aligns-clause-exact c = rw (place_check_is (file c.args.elf.now) (dropped_sections (file c.args.elf.now) c.args.gone.now) c.args.base) (search rules)

pub returns-in_err-addresses-clause-exact : goal.returns-in_err-addresses-clause-exact
returns-in_err-addresses-clause-exact c = rw (place_check_is (file c.args.elf.now) (dropped_sections (file c.args.elf.now) c.args.gone.now) c.args.base) (search rules)

pub returns-in_err-check_all_bits-clause-exact : goal.returns-in_err-check_all_bits-clause-exact
returns-in_err-check_all_bits-clause-exact c = rw (place_check_is (file c.args.elf.now) (dropped_sections (file c.args.elf.now) c.args.gone.now) c.args.base) (search rules)

pub returns-clause-exact : goal.returns-clause-exact
returns-clause-exact c = rw (place_check_is (file c.args.elf.now) (dropped_sections (file c.args.elf.now) c.args.gone.now) c.args.base) (search rules)
