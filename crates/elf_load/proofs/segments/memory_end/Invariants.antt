use Rattle.std.specs.Prelude.{max}
use Rattle.std.proofs.Common.{◌≡◌, ◌<◌, ◌^◌, map}
use Rattle.elf_read.specs.Views.{file}
use Rattle.core_notes.proofs.Numbered.{left_of}
use Rattle.elf_load.specs.Segments.{greatest, loaded_end, segment_end}
use Rattle.elf_load.proofs.segments.memory_end.Given as goal

abbrev pub invariant-loop-i : goal.invariant-loop-i
invariant-loop-i l = (max l.end (greatest (map (segment_end (file l.elf)) (left_of l.count l.i))) ≡ loaded_end (file l.elf)) × (l.end < 2 ^ 66)
