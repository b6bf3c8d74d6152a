-- Files that were read, with their modules.
use Rattle.std.specs.Prelude.{◌≡◌, List, Ok, All}
use Rattle.elf_mapped.specs.Program.{all_bytes}
use Rattle.sf_modules.specs.declared.read_once.ReadFile.{ReadFile}
use Rattle.sf_modules.specs.Module.{IsModule, module_view}
use Rattle.sf_modules.specs.Process.{ProcessView}
use Rattle.sf_modules.specs.Reading.{module_check}

-- no check of the file fails, and this is its module
pub record IsRead (p : ProcessView) (file : ReadFile) : Type 0 where
  pub fine : module_check p file.word.now (all_bytes file.bytes) ≡ Ok tt
  pub is : IsModule p file.word.now (all_bytes file.bytes) (module_view file.module)

-- each of the files is read
abbrev pub AreRead : ProcessView → List ReadFile → Type 0
AreRead p files = All (IsRead p) files
