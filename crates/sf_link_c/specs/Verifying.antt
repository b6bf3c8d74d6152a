-- What verifying returns to C.
use Rattle.std.specs.Prelude.{◌≡◌, ℕ, List, map, Option, Some, None, Result, Ok, Err, IsTrue, if◌then◌else◌}
use Rattle.sf_model.specs.Table.{Table}
use Rattle.sf_model.specs.declared.verdict.Verdict.{Verdict}
use Rattle.sf_model.specs.declared.verdict.Verdict.TheVariants.{Agrees, Differs}
use Rattle.sf_asm.specs.declared.fault.GatherFault.TheVariants as gather
use Rattle.sf_asm.specs.Functions.{Object}
use Rattle.sf_decode.specs.declared.kept.LentSection.{LentSection}
use Rattle.sf_decode.specs.Kept.{bytes_lent, table_lent}
use Rattle.sf_verify.specs.declared.fault.VerifyFault.{VerifyFault}
use Rattle.sf_verify.specs.declared.fault.VerifyFault.TheVariants as verifying
use Rattle.sf_verify.specs.FaultShown.{is_returned, is_verify_refusal, shown_of_verifying}
use Rattle.sf_verify.specs.Verifying.{IsFirstVerifyFault, Verifies}
use Rattle.sf_link_c.specs.declared.inputs.KiblawenInput.{KiblawenInput}
use Rattle.sf_link_c.specs.declared.refusals.KiblawenRefusal.{KiblawenRefusal}
use Rattle.sf_link_c.specs.declared.verifying.KiblawenVerdict.{KiblawenVerdict}
use Rattle.sf_link_c.specs.Contents.{content_or_none, content_shown, no_content}
use Rattle.sf_link_c.specs.Inputs.{AreFit, object_of_input}
use Rattle.sf_link_c.specs.Refusals.{no_refusal, refusal_shown}

-- a fault, as C has it: the section is item 0, and inputs are numbered from 1 on; a limit and out of memory have no line
abbrev pub refusal_of : VerifyFault → KiblawenRefusal
refusal_of fault = if is_verify_refusal fault then refusal_shown (shown_of_verifying (Some 0) fault) else no_refusal

-- the header's number of the answer to a fault
abbrev pub fault_answer : VerifyFault → ℕ
fault_answer verifying.NoMemory = 5
fault_answer (verifying.Gather gather.NoMemory) = 5
fault_answer (verifying.Gather gather.TooManyFunctions) = 3
fault_answer (verifying.Gather gather.TooManyRows) = 4
fault_answer other = 2

-- there is no verdict, for this reason
abbrev pub no_verdict : KiblawenRefusal → KiblawenVerdict
no_verdict why = record { checked = 0; missing = 0; repeats = 0; pc = 0; section = no_content; dwarf = no_content; why = why }

-- the answer to a verdict, and what is written
abbrev pub verdict_shown : Verdict → ℕ × KiblawenVerdict
verdict_shown (Agrees checked missing repeats) =
    (0, record { checked = checked; missing = missing; repeats = repeats; pc = 0; section = no_content; dwarf = no_content; why = no_refusal })
verdict_shown (Differs pc section dwarf) =
    (1, record { checked = 0; missing = 0; repeats = 0; pc = pc; section = content_shown section; dwarf = content_or_none dwarf; why = no_refusal })

-- what an open section of these bytes and this table, and inputs that are fit, come to
abbrev pub OpenComesTo : (bytes : List ℕ) → Table → List Object → Result Verdict VerifyFault → Type 0
OpenComesTo bytes table objects (Ok verdict) = Verifies bytes table objects (Ok verdict)
OpenComesTo bytes table objects (Err fault) = IsFirstVerifyFault bytes table objects fault × IsTrue (is_returned fault)

-- what a section and inputs come to: nothing while it is closed, or if they are not fit
abbrev pub HasOutcome : LentSection → List KiblawenInput → Option (Result Verdict VerifyFault) → Type 0
HasOutcome section inputs None = (table : Table) → table_lent section ≡ Some table → AreFit inputs → ⊥
HasOutcome section inputs (Some coming) =
    AreFit inputs × ((table : Table) × (table_lent section ≡ Some table) × OpenComesTo (bytes_lent section) table (map object_of_input inputs) coming)

-- what is returned and written
abbrev pub answered : Option (Result Verdict VerifyFault) → ℕ × KiblawenVerdict
answered None = (6, no_verdict no_refusal)
answered (Some (Ok verdict)) = verdict_shown verdict
answered (Some (Err fault)) = (fault_answer fault, no_verdict (refusal_of fault))

-- The answer to a section and inputs: there is one thing that they come to, and it decides what is returned and written.
pub record Answers (section : LentSection) (inputs : List KiblawenInput) (answer : ℕ) (verdict : KiblawenVerdict) : Type 0 where
  pub coming : Option (Result Verdict VerifyFault)
  pub comes : HasOutcome section inputs coming
  pub answer_is : (answer, verdict) ≡ answered coming
