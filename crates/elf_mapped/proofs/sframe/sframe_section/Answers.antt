use Rattle.std.specs.List.{find}
use Rattle.std.proofs.Common.{refl, sym, ◌∙◌, arith}
use Rattle.elf_read.specs.Sections.{section_count}
use Rattle.elf_read.specs.Linked.{linked_file}
use Rattle.elf_mapped.specs.Sframe.{is_sframe, sframe_section}
use Rattle.core_notes.proofs.Numbered.{skips, starts}
use Rattle.elf_mapped.proofs.sframe.sframe_section.Goals as goal

pub loop-i-init : goal.loop-i-init
unfolding sframe_section
loop-i-init c = starts (find (is_sframe (linked_file c.args.linked.now))) (section_count (linked_file c.args.linked.now)) (section_count (linked_file c.args.linked.now)) refl

pub loop-i-preserved : goal.loop-i-preserved
loop-i-preserved c =
    sym (skips (is_sframe (linked_file c.args.linked.now)) (section_count (linked_file c.args.linked.now)) c.loop-i.i (omega (c.loop-i-test.true, c.sections-i-end.ensures, arith)) (sym c.if-is_sframe.ensures))
    ∙ c.loop-i.invariant
