use Rattle.std.proofs.Common.{◌≡◌}
use Rattle.elf_read.specs.Input.{file}
use Rattle.elf_place.specs.Relocations.{listed_below}
use Rattle.elf_place.proofs.relocations.list_sections.Given as goal

abbrev pub invariant-loop-i : goal.invariant-loop-i
invariant-loop-i l = l.list.items ≡ listed_below (file l.elf) l.i
