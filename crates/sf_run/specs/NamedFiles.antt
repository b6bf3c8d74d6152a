-- Inside the crate. While the files of `procbacktrace` are read.
use Rattle.std.specs.Prelude.{◌≡◌, ℕ, All, List, map, None}
use Rattle.std.specs.List.{AllZip}
use Rattle.sf_model.specs.Notice.{HasLine}
use Rattle.sf_modules.specs.Process.{ProcessView}
use Rattle.process_tables.specs.declared.table.MappedTable.{MappedTable}
use Rattle.process_tables.specs.Views.{IsTableOf}
use Rattle.sf_text.specs.declared.passed.PassedFile.{PassedFile}
use Rattle.sf_text.specs.Passed.{passed_view}
use Rattle.sf_words.specs.declared.refusal.Refusal.{Refusal}
use Rattle.sf_words.specs.declared.refusal.Refusal.TheVariants as refusal
use Rattle.section_commands.specs.Coming.{Coming, Refused, Exceeded, MakesNoting}
use Rattle.section_commands.specs.Process.{File}
use Rattle.sf_run.specs.Procbacktrace.{FileComes, FileOutcome, Over, files_passed, first_limit, modules_used}

-- the faults of files have lines
abbrev pub HaveLines : List PassedFile → Type 0
HaveLines files = All (λ (file : PassedFile). HasLine file.notice) files

-- these are the tables and the passed files of outcomes, none of which exceeds a limit
pub record AreRead (outcomes : List FileOutcome) (tables : List MappedTable) (passed : List PassedFile) : Type 0 where
  pub within : first_limit outcomes ≡ None
  pub made : AllZip IsTableOf (modules_used outcomes) tables
  pub views : map passed_view passed ≡ files_passed outcomes
  pub lines : HaveLines passed

-- what the run comes to is a limit that the file of an item exceeds
abbrev pub IsOver : ProcessView → (item : ℕ) → File → Coming → Type 0
IsOver p item file (Refused shown) = ⊥
IsOver p item file (Exceeded limit) = FileComes p item file (Over limit)
IsOver p item file (MakesNoting outcome section text notes) = ⊥

-- it is no fault of an item
abbrev pub IsNoFault : Refusal → Type 0
IsNoFault (refusal.Read name) = Unit {0}
IsNoFault refusal.Memory = Unit {0}
IsNoFault (refusal.Limit limit) = Unit {0}
IsNoFault (refusal.Input notice) = ⊥
