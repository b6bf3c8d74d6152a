use Rattle.std.specs.List.{list_any}
use Rattle.std.proofs.Common.{◌≡◌}
use Rattle.elf_read.specs.Sections.{segment_total}
use Rattle.elf_mapped.specs.Program.{program_bytes}
use Rattle.core_notes.proofs.Numbered.{left_of}
use Rattle.sf_modules.specs.Build.{is_within_any, is_within}
use Rattle.sf_modules.proofs.build.is_loaded.Given as goal

abbrev pub invariant-loop-k : goal.invariant-loop-k
invariant-loop-k l = list_any (is_within (program_bytes l.program.elf) l.i) (left_of (segment_total (program_bytes l.program.elf)) l.k) ≡ is_within_any (program_bytes l.program.elf) l.i
