-- What verifying returns, by what it comes to.
use Rattle.std.specs.Prelude.{◌≡◌, ℕ, List, map, Some, Result, Ok, Err, IsTrue}
use Rattle.std.proofs.Common.{ap, subst, ◌∙◌}
use Rattle.sf_model.specs.Table.{Table}
use Rattle.sf_model.specs.declared.verdict.Verdict.{Verdict}
use Rattle.sf_asm.specs.Functions.{Object}
use Rattle.sf_decode.specs.declared.kept.LentSection.{LentSection}
use Rattle.sf_decode.specs.Kept.{bytes_lent, table_lent}
use Rattle.sf_verify.specs.declared.fault.VerifyFault.{VerifyFault}
use Rattle.sf_verify.specs.FaultShown.{is_returned}
use Rattle.sf_verify.specs.Verifying.{IsFirstVerifyFault, Verifies}
use Rattle.sf_link_c.specs.declared.inputs.KiblawenInput.{KiblawenInput}
use Rattle.sf_link_c.specs.declared.refusals.KiblawenRefusal.{KiblawenRefusal}
use Rattle.sf_link_c.specs.declared.verifying.KiblawenVerdict.{KiblawenVerdict}
use Rattle.sf_link_c.specs.Inputs.{AreFit, object_of_input}
use Rattle.sf_link_c.specs.Verifying.{Answers, HasOutcome, OpenComesTo, fault_answer, no_verdict, refusal_of, verdict_shown}

-- what an open section and fit inputs came to, by the view's bytes and the inputs that were linked
pub came_to : (section : LentSection) (inputs : List KiblawenInput) (bytes : List ℕ) (table : Table) (objects : List Object) (coming : Result Verdict VerifyFault)
    → table_lent section ≡ Some table → bytes ≡ bytes_lent section → objects ≡ map object_of_input inputs → AreFit inputs → OpenComesTo bytes table objects coming
    → HasOutcome section inputs (Some coming)
came_to section inputs bytes table objects coming is_open lent same fit came =
    (fit, (table, is_open, subst (λ (os : List Object). OpenComesTo (bytes_lent section) table os coming) same (subst (λ (b : List ℕ). OpenComesTo b table objects coming) lent came)))

pub verified : (section : LentSection) (inputs : List KiblawenInput) (bytes : List ℕ) (table : Table) (objects : List Object) (verdict : Verdict) (given : ℕ × KiblawenVerdict)
    → table_lent section ≡ Some table → bytes ≡ bytes_lent section → objects ≡ map object_of_input inputs → AreFit inputs → Verifies bytes table objects (Ok verdict) → given ≡ verdict_shown verdict
    → Answers section inputs given.0 given.1
verified section inputs bytes table objects verdict given is_open lent same fit came shown =
    record { coming = Some (Ok verdict); comes = came_to section inputs bytes table objects (Ok verdict) is_open lent same fit came; answer_is = shown }

pub refused : (section : LentSection) (inputs : List KiblawenInput) (bytes : List ℕ) (table : Table) (objects : List Object) (fault : VerifyFault) (answer : ℕ) (verdict : KiblawenVerdict) (why : KiblawenRefusal)
    → table_lent section ≡ Some table → bytes ≡ bytes_lent section → objects ≡ map object_of_input inputs → AreFit inputs → IsFirstVerifyFault bytes table objects fault → IsTrue (is_returned fault)
    → answer ≡ fault_answer fault → verdict ≡ no_verdict why → why ≡ refusal_of fault → Answers section inputs answer verdict
refused section inputs bytes table objects fault answer verdict why is_open lent same fit first is status nothing shown =
    record {
      coming = Some (Err fault);
      comes = came_to section inputs bytes table objects (Err fault) is_open lent same fit (first, is);
      answer_is = ap (λ (n : ℕ). (n, verdict)) status ∙ ap (λ (v : KiblawenVerdict). (fault_answer fault, v)) (nothing ∙ ap no_verdict shown);
    }
