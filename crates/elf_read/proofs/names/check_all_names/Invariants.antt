use Rattle.std.proofs.Common.{◌≡◌, Ok}
use Rattle.elf_read.specs.Checking.{each_below}
use Rattle.elf_read.specs.Checks.{name_check}
use Rattle.elf_read.proofs.names.check_all_names.Given as goal

abbrev pub invariant-loop-i : goal.invariant-loop-i
invariant-loop-i l = each_below l.i (name_check l.file) ≡ Ok tt
