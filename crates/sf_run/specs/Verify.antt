-- `verify FILE@AT IN@BASE ..`: which words ask for it, its files, and what it comes to.
use Rattle.std.specs.Prelude.{◌≡◌, ℕ, List, [], ◌∷◌, codes, drop, get_or, map, Some, None, Result, Ok, Err}
use Rattle.sf_model.specs.declared.verdict.Verdict.{Verdict}
use Rattle.sf_model.specs.declared.verdict.Verdict.TheVariants.{Agrees, Differs}
use Rattle.sf_model.specs.Section.{Section}
use Rattle.sf_model.specs.Table.{Table}
use Rattle.sf_decode.specs.declared.fault.DecodeFault.{DecodeFault}
use Rattle.sf_decode.specs.Decoding.{section_check}
use Rattle.sf_asm.specs.declared.fault.GatherFault.TheVariants.{TooManyFunctions, TooManyRows}
use Rattle.sf_asm.specs.Functions.{Object}
use Rattle.sf_verify.specs.declared.fault.VerifyFault.{VerifyFault}
use Rattle.sf_verify.specs.declared.fault.VerifyFault.TheVariants.{Gather}
use Rattle.sf_verify.specs.FaultShown.{shown_of_verifying}
use Rattle.sf_verify.specs.Verifying.{Verifies}
use Rattle.sf_text.specs.Verdict.{verdict_text}
use Rattle.sf_words.specs.declared.refusal.Limit.TheVariants.{Functions, Rows}
use Rattle.sf_words.specs.Files.{FilesWords}
use Rattle.sf_words.specs.Forms.{NameInputs, SectionAndInputs}
use Rattle.sf_words.specs.Items.{Input as InputItem, Section as SectionItem}
use Rattle.section_commands.specs.Coming.{Coming, Refused, Exceeded, Makes}
use Rattle.section_commands.specs.declared.made.Outcome.{Outcome}
use Rattle.section_commands.specs.declared.made.Outcome.TheVariants.{Done, Negative}
use Rattle.section_commands.specs.SectionComes.{coming_of_decoding}
use Rattle.sf_run.specs.Inputs.{objects_in}

-- the words ask for this comparison
abbrev pub IsVerify : List (List ℕ) → SectionAndInputs → Type 0
IsVerify words verify = NameInputs (codes "verify") words verify

-- its files: the section and the inputs are read, and none is made
abbrev pub verify_files : SectionAndInputs → FilesWords
verify_files verify = record { out = None; first = SectionItem verify.section ∷ []; list = map InputItem verify.inputs }

-- what a fault of verifying comes to; the section is item 0
abbrev pub coming_of_verifying : VerifyFault → Coming
coming_of_verifying (Gather TooManyFunctions) = Exceeded Functions
coming_of_verifying (Gather TooManyRows) = Exceeded Rows
coming_of_verifying fault = Refused (shown_of_verifying (Some 0) fault)

-- the outcome is no if they differ
abbrev pub verdict_outcome : Verdict → Outcome
verdict_outcome (Agrees checked missing repeats) = Done
verdict_outcome (Differs pc section dwarf) = Negative

abbrev pub coming_of_verdict : Result Verdict VerifyFault → Coming
coming_of_verdict (Ok verdict) = Makes (verdict_outcome verdict) None (verdict_text verdict)
coming_of_verdict (Err fault) = coming_of_verifying fault

-- what verifying comes to by the table whose section the bytes are
pub record TableVerifies (at : ℕ) (bytes : List ℕ) (objects : List Object) (coming : Coming) : Type 0 where
  pub table : Table
  pub of_bytes : Section bytes at table
  pub result : Result Verdict VerifyFault
  pub verifies : Verifies bytes table objects result
  pub is : coming ≡ coming_of_verdict result

abbrev pub VerifyComesFrom : (at : ℕ) → (bytes : List ℕ) → List Object → Result (Unit {0}) DecodeFault → Coming → Type 0
VerifyComesFrom at bytes objects (Err fault) coming = coming ≡ coming_of_decoding 0 fault
VerifyComesFrom at bytes objects (Ok u) coming = TableVerifies at bytes objects coming

-- what verifying the first item, a section, against the others comes to
abbrev pub VerifyComes : SectionAndInputs → (items : List (List ℕ)) → Coming → Type 0
VerifyComes verify items coming =
    VerifyComesFrom verify.section.at (get_or items 0 []) (objects_in verify.inputs (drop 1 items)) (section_check (get_or items 0 []) verify.section.at) coming
