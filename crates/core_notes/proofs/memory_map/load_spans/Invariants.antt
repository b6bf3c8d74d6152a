use Rattle.std.specs.List.{range_with_len}
use Rattle.std.proofs.Common.{◌≡◌, map}
use Rattle.elf_read.specs.Views.{file}
use Rattle.core_notes.specs.MemoryBytes.{load_span}
use Rattle.core_notes.proofs.memory_map.load_spans.Given as goal

abbrev pub invariant-loop-i : goal.invariant-loop-i
invariant-loop-i l = l.spans.items ≡ map (load_span (file l.elf)) (range_with_len 0 l.i)
