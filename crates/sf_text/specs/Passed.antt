-- The lines of files that a run passes, since they can't be used.
use Rattle.std.specs.Prelude.{◌++◌, ℕ, List, codes}
use Rattle.std.specs.List.{flat_map}
use Rattle.sf_model.specs.FaultShown.{FaultShown, shown_by}
use Rattle.sf_text.specs.declared.passed.PassedFile.{PassedFile}
use Rattle.sf_text.specs.FaultLine.{fault_words}
use Rattle.sf_text.specs.ShownName.{shown_name}

-- a file by the word that names it, and what is shown of its fault
pub record PassedView : Type 0 where
  pub name : List ℕ
  pub shown : FaultShown

-- `passed FILE: GROUP FAULT VALUES`
unfoldable pub passed_line : PassedView → List ℕ
passed_line file = codes "passed " ++ shown_name file.name ++ codes ": " ++ fault_words file.shown.fault ++ codes "\n"

-- a line for each file, in order
abbrev pub passed_lines : List PassedView → List ℕ
passed_lines files = flat_map passed_line files

-- ---- as the code has them
abbrev pub passed_view : PassedFile → PassedView
passed_view file = record { name = file.name.now; shown = shown_by file.notice }
