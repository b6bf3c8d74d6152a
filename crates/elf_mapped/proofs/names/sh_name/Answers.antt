use Rattle.std.proofs.Common.{rules, arith}
use Rattle.elf_read.specs.Linked.{linked_file}
use Rattle.elf_read.specs.Sections.{section_fields}
use Rattle.elf_mapped.proofs.Kept.{section_kept}
use Rattle.elf_mapped.proofs.names.sh_name.Goals as goal

pub returns : goal.returns
unfolding section_fields
returns c =
    let linked = c.args.linked.now in
    let kept = section_kept 4 0 c.args.i linked.count (linked_file linked) linked.sections.items linked.sections_are (omega (c.requires, linked.counted, arith)) (omega arith) in
    search (rules, kept)
