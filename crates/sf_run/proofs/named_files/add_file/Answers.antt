use Rattle.std.proofs.Common.{◌∙◌, refl, ap, subst}
use Rattle.elf_mapped.specs.Program.{all_bytes}
use Rattle.sf_modules.specs.Process.{process_view}
use Rattle.sf_modules.specs.Reading.{mapped_check}
use Rattle.sf_text.specs.declared.passed.PassedFile.{PassedFile}
use Rattle.sf_text.specs.Passed.{passed_view}
use Rattle.section_commands.specs.Coming.{Coming}
use Rattle.section_commands.specs.Making.{ComesAs, UnmadeAs}
use Rattle.sf_run.specs.declared.named_files.NamedFiles.{NamedFiles}
use Rattle.sf_run.specs.Procbacktrace.{IsUnusable, Passed, Used}
use Rattle.sf_run.proofs.FilesRead.{one_passed, one_used}
use Rattle.sf_run.proofs.named_files.add_file.Goals as goal
use Rattle.sf_run.proofs.named_files.add_file.Goals.{in-Ok+in_ok-push-in-Ok, in-Err-Refused+in_ok-notice-in-Err-Refused+in_ok-push-in-Err-Refused}

pub returns-clause-added : goal.returns-clause-added
returns-clause-added c outcomes are =
    let p = process_view c.args.process.now in
    let word = c.args.word.now in
    let bytes = all_bytes c.args.bytes in
    let old = c.args.files.now in
    let new = c.match-usable_table.files in
    elim c.match-usable_table.branch [
      | in-Ok+in_ok-push-in-Ok w ↦
          let made = w.in-Ok.ensures.made in
          let tables = ap (λ (f : NamedFiles). f.tables.items) w.files-is ∙ w.in_ok-push-in-Ok.ensures.items in
          let passed = ap (λ (f : NamedFiles). f.passed.items) w.files-is in
          (Used made.0, made.1, one_used outcomes made.0 _ old new made.2 tables passed are)
      | in-Err-Refused+in_ok-notice-in-Err-Refused+in_ok-push-in-Err-Refused w ↦
          let comes = subst (UnmadeAs (λ (coming : Coming). IsUnusable p c.args.item (word, bytes) (mapped_check p word bytes) coming)) w.in-Err-Refused.field-0-is w.in-Err-Refused.ensures.refused in
          let input = subst (ComesAs (λ (coming : Coming). IsUnusable p c.args.item (word, bytes) (mapped_check p word bytes) coming)) w.in_ok-notice-in-Err-Refused.ensures.fault comes in
          let file : PassedFile = record { name = c.args.word; notice = w.in_ok-notice-in-Err-Refused.notice } in
          let tables = ap (λ (f : NamedFiles). f.tables.items) w.files-is in
          let passed = ap (λ (f : NamedFiles). f.passed.items) w.files-is ∙ w.in_ok-push-in-Err-Refused.ensures.items in
          (Passed (passed_view file), (refl, input.1), one_passed outcomes file old new input.0 tables passed are)
    ]
