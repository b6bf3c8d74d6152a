use Rattle.std.proofs.Common.{◌≡◌, Ok}
use Rattle.elf_read.specs.Checking.{each_below}
use Rattle.elf_read.specs.Used.{rela_check}
use Rattle.elf_read.proofs.used_checks.check_relas.Given as goal

abbrev pub invariant-loop-i : goal.invariant-loop-i
invariant-loop-i l = each_below l.i (rela_check l.file) ≡ Ok tt
