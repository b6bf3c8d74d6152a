use Rattle.std.proofs.Common.{◌≡◌, ℕ, List, Ok, map, string_bytes, sym, subst}
use Rattle.std.specs.List.{zip}
use Rattle.std.proofs.lemmas.Result.{err_from_is_err_and}
use Rattle.core_parts.specs.Loaded.{core_read_bytes}
use Rattle.sf_modules.specs.Entry.{mapping_view}
use Rattle.sf_modules.specs.Note.{HasEntries, file_entries_check}
use Rattle.sf_modules.specs.Process.{process_of}
use Rattle.section_commands.specs.Making.{UnmadeAs}
use Rattle.section_commands.specs.Process.{file_note}
use Rattle.section_commands.specs.Procwalk.{FilesCome, files_fault}
use Rattle.sf_words.specs.Loading.{loaded_bytes}
use Rattle.section_commands.proofs.Procwalks.{files_unread}
use Rattle.section_commands.proofs.procwalk.procwalk_made.Goals as goal

pub returns-in_err-modules-clause-comes : goal.returns-in_err-modules-clause-comes
returns-in_err-modules-clause-comes c =
    let p = err_from_is_err_and c.from_residual.result c.from_residual.ensures.1 in
    let core = core_read_bytes c.args.core.now in
    let page = c.in-Ok-entries.note.0 in
    let entries = map mapping_view c.deref.result.now in
    let note : file_entries_check (file_note core) ≡ Ok tt = subst (λ (file : List ℕ). file_entries_check (file_note file) ≡ Ok tt) c.in-Ok.ensures.bytes c.in-Ok-entries.ensures.exact in
    let are : HasEntries (file_note core) page entries =
    subst (λ es. HasEntries (file_note core) page (map mapping_view es)) (sym c.deref.ensures.value)
    (subst (λ (file : List ℕ). HasEntries (file_note file) page (map mapping_view c.in-Ok-entries.note.1.items)) c.in-Ok.ensures.bytes c.in-Ok-entries.ensures.sound) in
    let files = zip (map string_bytes c.args.names.now) (loaded_bytes c.args.files.now) in
    rw (p.1, p.2) (files_unread core c.args.depth page entries files _ (sym c.in-Ok.ensures.exact) note are
    (subst (λ (file : List ℕ). UnmadeAs (FilesCome (process_of file page entries) c.args.depth files (files_fault (process_of file page entries) files)) c.in_err-modules.field-0.0) c.in-Ok.ensures.bytes
    (c.in_err-modules.ensures.refused c.args.depth)))
