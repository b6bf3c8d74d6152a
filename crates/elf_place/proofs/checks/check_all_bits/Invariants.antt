use Rattle.std.proofs.Common.{◌≡◌, Ok}
use Rattle.elf_read.specs.Checking.{each_below}
use Rattle.elf_read.specs.Input.{file}
use Rattle.elf_place.specs.Place.{bits_check}
use Rattle.elf_place.proofs.checks.check_all_bits.Given as goal

abbrev pub invariant-loop-i : goal.invariant-loop-i
invariant-loop-i l = each_below l.i (bits_check (file l.elf) l.dropped) ≡ Ok tt
