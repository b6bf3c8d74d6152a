use Rattle.std.proofs.Common.{◌≡◌, Ok}
use Rattle.elf_read.specs.Checking.{each_below}
use Rattle.elf_read.specs.Checks.{name_check}
use Rattle.elf_read.specs.Linked.{whole_of}
use Rattle.elf_read.proofs.linked.all_names_stand.Given as goal

-- the sections so far pass
abbrev pub invariant-loop-i : goal.invariant-loop-i
invariant-loop-i l = each_below l.i (name_check (whole_of l.headers)) ≡ Ok tt
