use Rattle.std.proofs.Common.{◌≡◌, drop}
use Rattle.elf_read.specs.Views.{file}
use Rattle.core_notes.specs.Memory.{rise_from}
use Rattle.core_notes.specs.Segment.{segments}
use Rattle.core_notes.proofs.memory.rise.Given as goal

abbrev pub invariant-loop-i : goal.invariant-loop-i
invariant-loop-i l = rise_from l.end (drop l.i (segments (file l.elf))) ≡ rise_from 0 (segments (file l.elf))
