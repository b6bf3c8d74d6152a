use Rattle.std.proofs.Common.{◌≡◌, drop}
use Rattle.elf_reloc.specs.Order.{places_check}
use Rattle.elf_reloc.proofs.fields.check_places.Given as goal

abbrev pub invariant-loop-fix : goal.invariant-loop-fix
invariant-loop-fix l = places_check l.fields (drop l.fix-index l.fixes) ≡ places_check l.fields l.fixes
