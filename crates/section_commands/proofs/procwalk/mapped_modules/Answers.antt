use Rattle.std.specs.Prelude.{IfErr, IfOk}
use Rattle.std.proofs.Common.{◌≡◌, ℕ, None, map, subst}
use Rattle.sf_modules.specs.Module.{module_view}
use Rattle.sf_modules.specs.Process.{ProcessView}
use Rattle.section_commands.specs.Making.{UnmadeAs}
use Rattle.section_commands.specs.Procwalk.{FilesCome, IsModuleOf, files_fault}
use Rattle.std.specs.List.{AllZip, zip}
use Rattle.std.specs.String.{string_bytes}
use Rattle.sf_words.specs.Loading.{loaded_bytes}
use Rattle.section_commands.proofs.procwalk.mapped_modules.Goals as goal

pub returns-clause-checked : goal.returns-clause-checked
returns-clause-checked c =
    let files = zip (map string_bytes c.args.names.now) (loaded_bytes c.args.files.now) in
    subst (λ (p : ProcessView). IfOk c.modules_of.result (λ ms. files_fault p files ≡ None)) c.in_ok-process.ensures.process c.modules_of.ensures.checked

pub returns-clause-are : goal.returns-clause-are
returns-clause-are c =
    let files = zip (map string_bytes c.args.names.now) (loaded_bytes c.args.files.now) in
    subst (λ (p : ProcessView). IfOk c.modules_of.result (λ ms. AllZip (IsModuleOf p) files (map module_view ms.items))) c.in_ok-process.ensures.process c.modules_of.ensures.are

pub returns-clause-refused : goal.returns-clause-refused
returns-clause-refused c =
    let files = zip (map string_bytes c.args.names.now) (loaded_bytes c.args.files.now) in
    subst (λ (p : ProcessView). IfErr c.modules_of.result (λ refused. (depth : ℕ) → UnmadeAs (FilesCome p depth files (files_fault p files)) refused)) c.in_ok-process.ensures.process c.modules_of.ensures.refused
