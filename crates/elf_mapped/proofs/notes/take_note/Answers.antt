use Rattle.std.proofs.Common.{refl, ◌∙◌, ne_eqb}
use Rattle.elf_read.specs.Header.{p_type}
use Rattle.elf_mapped.specs.Parts.{table_file}
use Rattle.elf_mapped.proofs.NoteParts.{no_part}
use Rattle.elf_mapped.proofs.notes.take_note.Goals as goal

pub returns-then-p_type-ne-PT_NOTE-clause-note : goal.returns-then-p_type-ne-PT_NOTE-clause-note
returns-then-p_type-ne-PT_NOTE-clause-note c =
    let f = table_file c.args.table.now in
    no_part f c.args.i _ refl c.new.ensures.items (ne_eqb (p_type f c.args.i) 4 (λ e. c.if-p_type-ne-PT_NOTE.true (c.p_type.ensures ∙ e)))
