-- Inside the crate: the verdict by the lists that the code scans.
use Rattle.std.specs.Prelude.{◌≡◌, ℕ, not, List, length}
use Rattle.std.specs.List.{filter}
use Rattle.sf_model.specs.declared.function.Func.{Func}
use Rattle.sf_model.specs.declared.verdict.Verdict.{Verdict}
use Rattle.sf_model.specs.declared.verdict.Verdict.TheVariants.{Agrees, Differs}
use Rattle.sf_verify.specs.Agreement.{Agree, DifferFirst, is_plain}
use Rattle.sf_verify.specs.Counting.{is_absent}
use Rattle.frame_functions.specs.ContentAt.{Answers}
use Rattle.sf_verify.specs.SectionContent.{section_at}

-- the section agrees with these contents at every address, and these are the numbers of its plain functions, of the kept functions
-- that it lacks, and of its functions of repeated blocks
pub record AgreeBy (section ordered kept : List Func) (answers : Answers) (checked missing repeats : ℕ) : Type 0 where
  pub agree : (pc : ℕ) → Agree (section_at ordered pc) (answers pc)
  pub checked_are : checked ≡ length (filter is_plain section)
  pub missing_are : missing ≡ length (filter (is_absent ordered) kept)
  pub repeats_are : repeats ≡ length (filter (λ f. not (is_plain f)) section)

-- the verdict on a section's functions, by kept functions and by the content at each address; `ordered` has the section's functions
-- that hold an address
abbrev pub IsVerdictBy : (section ordered kept : List Func) → Answers → Verdict → Type 0
IsVerdictBy section ordered kept answers (Agrees checked missing repeats) = AgreeBy section ordered kept answers checked missing repeats
IsVerdictBy section ordered kept answers (Differs pc ours theirs) = DifferFirst (section_at ordered) answers pc ours theirs
