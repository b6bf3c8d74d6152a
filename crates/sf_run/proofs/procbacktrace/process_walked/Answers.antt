use Rattle.std.specs.List.{zip}
use Rattle.std.specs.String.{string_bytes}
use Rattle.std.proofs.Common.{List, map, length, ap, subst, sym, ◌∙◌, arith}
use Rattle.std.proofs.lemmas.List.{length-map}
use Rattle.std.proofs.lemmas.Result.{err_from_is_err_and}
use Rattle.core_parts.specs.Input.{input_file}
use Rattle.elf_read.specs.Header.{arch_of}
use Rattle.sf_modules.specs.Entry.{mapping_view}
use Rattle.sf_modules.specs.Process.{ProcessView, process_of, process_view}
use Rattle.process_tables.specs.declared.table.MappedTable.{MappedTable}
use Rattle.sf_words.specs.ItemRead.{read_bytes}
use Rattle.sf_words.specs.declared.loaded.Loaded.{Loaded}
use Rattle.sf_words.specs.Loading.{loaded_bytes}
use Rattle.section_commands.specs.Making.{UnmadeAs}
use Rattle.sf_run.specs.NamedFiles.{AreRead}
use Rattle.sf_run.specs.Procbacktrace.{FilesCome, ProcbacktraceComesIn}
use Rattle.sf_run.proofs.FilesRead.{fewer_tables, walked_in}
use Rattle.sf_run.proofs.procbacktrace.process_walked.Goals as goal

pub read_named_files-requires-clause-machine : goal.read_named_files-requires-clause-machine
read_named_files-requires-clause-machine c = c.arch.ensures ∙ ap (λ (p : ProcessView). arch_of p.core) (sym c.in_ok-process.ensures.process)

pub walked-requires-clause-few : goal.walked-requires-clause-few
walked-requires-clause-few c =
    let read = c.in_ok-tables.ensures.read in
    let fewer = fewer_tables (process_view c.in_ok-process.process) (map string_bytes c.args.names.now) (loaded_bytes c.args.files.now) read.0 _ _ read.1 read.2 in
    let count = length-map c.args.files.now (λ (l : Loaded). read_bytes l.read) in
    let lent = ap length c.deref.ensures.value in
    omega (fewer, count, lent, c.requires.few, arith)

pub walked-requires-clause-read : goal.walked-requires-clause-read
walked-requires-clause-read c =
    let read = c.in_ok-tables.ensures.read in
    (read.0, subst (λ (tables : List MappedTable). AreRead read.0 tables c.in_ok-tables.field-0.passed.items) (sym c.deref.ensures.value) read.2)

pub returns-in_err-tables-clause-comes : goal.returns-in_err-tables-clause-comes
returns-in_err-tables-clause-comes c =
    let e = err_from_is_err_and c.from_residual-in_err-tables.result c.from_residual-in_err-tables.ensures.1 in
    let files = zip (map string_bytes c.args.names.now) (loaded_bytes c.args.files.now) in
    rw (e.1, e.2) (subst (λ (q : ProcessView). UnmadeAs (ProcbacktraceComesIn c.args.depth files q) c.in_err-tables.field-0.0) c.in_ok-process.ensures.process (c.in_err-tables.ensures.over c.args.depth))

pub returns-clause-comes : goal.returns-clause-comes
returns-clause-comes c =
    let files = zip (map string_bytes c.args.names.now) (loaded_bytes c.args.files.now) in
    let p = process_of (input_file c.args.core.now) c.args.page (map mapping_view c.args.entries.now) in
    let read = c.in_ok-tables.ensures.read in
    walked_in c.args.depth files p read.0 c.walked.result (subst (λ (q : ProcessView). FilesCome q 1 files read.0) c.in_ok-process.ensures.process read.1)
    (c.walked.ensures.comes c.args.page read.0 (subst (λ (tables : List MappedTable). AreRead read.0 tables c.in_ok-tables.field-0.passed.items) (sym c.deref.ensures.value) read.2))
