use Rattle.std.proofs.Common.{◌≡◌, drop}
use Rattle.elf_reloc.specs.Order.{overlap_check}
use Rattle.elf_reloc.proofs.order.check_overlap.Given as goal

abbrev pub invariant-loop-fix : goal.invariant-loop-fix
invariant-loop-fix l = overlap_check l.end (drop l.fix-index l.fixes) ≡ overlap_check 0 l.fixes
