use Rattle.std.proofs.Common.{◌≡◌}
use Rattle.elf_read.specs.Used.{least_compressed}
use Rattle.elf_read.proofs.compressed.least_compressed.Given as goal

abbrev pub invariant-loop-i : goal.invariant-loop-i
invariant-loop-i l = l.found ≡ least_compressed l.file l.i
