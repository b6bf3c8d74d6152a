use Rattle.std.proofs.Common.{List, ℕ, refl, subst}
use Rattle.elf_mapped.specs.Program.{all_bytes}
use Rattle.module_tables.specs.Table.{IsModuleTable}
use Rattle.sf_modules.specs.Mapped.{IsMapped, mapped_view}
use Rattle.sf_modules.specs.Process.{process_view}
use Rattle.process_tables.proofs.Tables.{made}
use Rattle.process_tables.proofs.table.mapped_table.Goals as goal

pub returns-in-Ok-module_table-clause-table : goal.returns-in-Ok-module_table-clause-table
returns-in-Ok-module_table-clause-table c =
    let p = process_view c.args.process.now in
    let mapped = mapped_view c.in-Ok.mapped in
    let table = c.in-Ok-module_table.table in
    let is = subst (λ (word : List ℕ). IsMapped p word (all_bytes c.args.bytes) mapped) c.as_bytes.ensures.value c.in-Ok.ensures.sound in
    made p c.args.item c.args.word.now (all_bytes c.args.bytes) mapped _ refl refl refl is
    (subst (λ (file : List ℕ). IsModuleTable file c.in-Ok.mapped.base c.in-Ok.mapped.entry.start table.section.items table.signals.items) c.input_bytes.ensures.bytes c.in-Ok-module_table.ensures.table)
