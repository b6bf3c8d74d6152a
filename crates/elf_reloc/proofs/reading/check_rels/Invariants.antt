use Rattle.std.proofs.Common.{◌≡◌, drop}
use Rattle.elf_place.specs.Relocations.{numbers_of}
use Rattle.elf_place.specs.Views.{placed_file}
use Rattle.elf_reloc.specs.Reading.{rel_check}
use Rattle.elf_reloc.proofs.reading.check_rels.Given as goal

abbrev pub invariant-loop-it : goal.invariant-loop-it
invariant-loop-it l = rel_check (placed_file l.placed) (numbers_of l.sections) ≡ rel_check (placed_file l.placed) (numbers_of (drop l.it-index l.sections))
