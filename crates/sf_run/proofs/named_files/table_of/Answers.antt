use Rattle.std.proofs.Common.{subst}
use Rattle.elf_mapped.specs.Program.{all_bytes}
use Rattle.sf_modules.specs.Process.{process_view}
use Rattle.process_tables.specs.declared.table.TableFault.{TableFault}
use Rattle.process_tables.specs.Views.{IsTableFault}
use Rattle.sf_run.proofs.FilesRead.{unlinked_comes}
use Rattle.sf_run.proofs.named_files.table_of.Goals as goal

pub returns-in-Ok-clause-made : goal.returns-in-Ok-clause-made
returns-in-Ok-clause-made c = let made = c.in-Ok.ensures.table in (made.0, record { checked = c.in-Ok.ensures.found; is = made.1 }, made.2)

pub returns-in-Err-Link-clause-refused : goal.returns-in-Err-Link-clause-refused
returns-in-Err-Link-clause-refused c =
    let p = process_view c.args.process.now in
    let u = subst (λ (f : TableFault). IsTableFault p c.args.word.now (all_bytes c.args.bytes) f) c.in-Err-Link.field-0-is c.in-Err-Link.ensures.fault in
    unlinked_comes p c.args.item (c.args.word.now, all_bytes c.args.bytes) c.in-Err-Link.fault c.unlinked_file.result u.0 c.unlinked_file.ensures.memory c.unlinked_file.ensures.is
