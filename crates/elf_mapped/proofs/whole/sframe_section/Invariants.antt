use Rattle.std.specs.List.{find}
use Rattle.std.proofs.Common.{◌≡◌}
use Rattle.elf_read.specs.Sections.{section_count}
use Rattle.elf_read.specs.Views.{file}
use Rattle.elf_mapped.specs.Sframe.{is_sframe, sframe_section}
use Rattle.core_notes.proofs.Numbered.{left_of}
use Rattle.elf_mapped.proofs.whole.sframe_section.Given as goal

abbrev pub invariant-loop-i : goal.invariant-loop-i
invariant-loop-i l = find (is_sframe (file l.elf)) (left_of (section_count (file l.elf)) l.i) ≡ sframe_section (file l.elf)
