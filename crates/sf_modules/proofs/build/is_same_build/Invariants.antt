use Rattle.std.specs.List.{list_all}
use Rattle.std.proofs.Common.{◌≡◌}
use Rattle.elf_read.specs.Sections.{segment_total}
use Rattle.elf_mapped.specs.Program.{program_bytes}
use Rattle.core_parts.specs.Input.{map_file}
use Rattle.core_notes.proofs.Numbered.{left_of}
use Rattle.sf_modules.specs.Build.{is_same_build, segment_agrees}
use Rattle.sf_modules.proofs.build.is_same_build.Given as goal

abbrev pub invariant-loop-i : goal.invariant-loop-i
invariant-loop-i l =
    list_all (segment_agrees (map_file l.memory) (program_bytes l.program.elf) l.base) (left_of (segment_total (program_bytes l.program.elf)) l.i) ≡ is_same_build (map_file l.memory) (program_bytes l.program.elf) l.base
