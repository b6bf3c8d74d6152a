use Rattle.std.proofs.Common.{◌≡◌, Ok}
use Rattle.elf_read.specs.Checking.{each_below}
use Rattle.elf_read.specs.Used.{member_check}
use Rattle.elf_read.proofs.used_checks.check_members_upto.Given as goal

abbrev pub invariant-loop-k : goal.invariant-loop-k
invariant-loop-k l = each_below l.k (member_check l.file l.i) ≡ Ok tt
