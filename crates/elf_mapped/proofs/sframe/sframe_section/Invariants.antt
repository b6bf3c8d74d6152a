use Rattle.std.specs.List.{find}
use Rattle.std.proofs.Common.{◌≡◌}
use Rattle.elf_read.specs.Sections.{section_count}
use Rattle.elf_read.specs.Linked.{linked_file}
use Rattle.elf_mapped.specs.Sframe.{is_sframe, sframe_section}
use Rattle.core_notes.proofs.Numbered.{left_of}
use Rattle.elf_mapped.proofs.sframe.sframe_section.Given as goal

abbrev pub invariant-loop-i : goal.invariant-loop-i
invariant-loop-i l = find (is_sframe (linked_file l.linked)) (left_of (section_count (linked_file l.linked)) l.i) ≡ sframe_section (linked_file l.linked)
