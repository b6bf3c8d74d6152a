use Rattle.std.proofs.Common.{◌≡◌, take}
use Rattle.elf_read.specs.Views.{file}
use Rattle.core_notes.specs.Memory.{holdings}
use Rattle.core_notes.specs.Segment.{segments}
use Rattle.core_notes.proofs.core_memory.holdings_of.Given as goal

abbrev pub invariant-loop-i : goal.invariant-loop-i
invariant-loop-i l = l.spans.items ≡ holdings 0 (take l.i (segments (file l.elf)))
