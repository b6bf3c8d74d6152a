use Rattle.std.specs.List.{find}
use Rattle.std.proofs.Common.{◌≡◌}
use Rattle.elf_read.specs.Views.{file}
use Rattle.core_notes.proofs.Numbered.{left_of}
use Rattle.elf_load.specs.Segments.{first_loaded, is_loaded}
use Rattle.elf_load.proofs.segments.first_loaded.Given as goal

abbrev pub invariant-loop-i : goal.invariant-loop-i
invariant-loop-i l = find (is_loaded (file l.elf)) (left_of l.count l.i) ≡ first_loaded (file l.elf)
