use Rattle.std.proofs.Common.{◌≡◌, drop}
use Rattle.std.specs.List.{find}
use Rattle.elf_read.specs.Views.{file}
use Rattle.core_notes.specs.MemoryBytes.{is_bytes_holder}
use Rattle.core_notes.specs.Segment.{segments}
use Rattle.core_notes.proofs.memory.by_scan.Given as goal

abbrev pub invariant-loop-i : goal.invariant-loop-i
invariant-loop-i l = find (is_bytes_holder l.address l.len) (drop l.i (segments (file l.elf))) ≡ find (is_bytes_holder l.address l.len) (segments (file l.elf))
