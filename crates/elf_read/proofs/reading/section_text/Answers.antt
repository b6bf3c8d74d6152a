use Rattle.std.proofs.Common.{sym, ◌∙◌}
use Rattle.elf_read.proofs.Texts.{no_name}
use Rattle.elf_read.proofs.reading.section_text.Goals as goal

pub returns-then-table-eq0-clause-text : goal.returns-then-table-eq0-clause-text
returns-then-table-eq0-clause-text c = no_name c.args.file.now c.args.i (sym c.name_table-table.ensures ∙ c.if-table-eq0.true)
