-- What `verify` makes of the bytes of its items is what it comes to.
use Rattle.std.proofs.Common.{◌≡◌, ℕ, List, None, Result, Ok, Err, ap, sym, subst, ◌∙◌, inl, inr}
use Rattle.sf_model.specs.declared.verdict.Verdict.{Verdict}
use Rattle.sf_model.specs.Section.{Section}
use Rattle.sf_model.specs.Table.{Table}
use Rattle.sf_decode.specs.declared.fault.DecodeFault.{DecodeFault}
use Rattle.sf_decode.specs.Decoding.{section_check}
use Rattle.sf_asm.specs.Functions.{Object}
use Rattle.sf_verify.specs.declared.fault.VerifyFault.{VerifyFault}
use Rattle.sf_verify.specs.declared.fault.VerifyFault.TheVariants as verify_fault
use Rattle.sf_verify.specs.Verifying.{IsFirstVerifyFault, Verifies}
use Rattle.sf_text.specs.Verdict.{verdict_text}
use Rattle.sf_words.specs.declared.refusal.Refusal.{Refusal}
use Rattle.sf_words.specs.declared.refusal.Refusal.TheVariants as refusal
use Rattle.section_commands.specs.declared.made.Outcome.{Outcome}
use Rattle.section_commands.specs.Coming.{Coming, Makes}
use Rattle.section_commands.specs.Making.{ComesAs}
use Rattle.section_commands.specs.SectionComes.{coming_of_decoding}
use Rattle.section_commands.proofs.Making.{comes_as, memory_comes}
use Rattle.sf_run.specs.Verify.{VerifyComesFrom, coming_of_verifying, verdict_outcome}

pub verified_comes : (at : ℕ) (bytes read : List ℕ) (objects : List Object) (table : Table) (verdict : Verdict) (outcome : Outcome) (text : List ℕ) → read ≡ bytes → section_check bytes at ≡ Ok tt → Section bytes at table
    → Verifies read table objects (Ok verdict) → outcome ≡ verdict_outcome verdict → text ≡ verdict_text verdict → VerifyComesFrom at bytes objects (section_check bytes at) (Makes outcome None text)
verified_comes at bytes read objects table verdict outcome text same checked of_bytes verifies outcome_is text_is =
    subst (λ (check : Result (Unit {0}) DecodeFault). VerifyComesFrom at bytes objects check (Makes outcome None text)) (sym checked) record {
      table = table;
      of_bytes = of_bytes;
      result = Ok verdict;
      verifies = subst (λ (b : List ℕ). Verifies b table objects (Ok verdict)) same verifies;
      is = ap (λ (o : Outcome). Makes o None text) outcome_is ∙ ap (λ (t : List ℕ). Makes (verdict_outcome verdict) None t) text_is;
    }

pub unverified_comes : (at : ℕ) (bytes read : List ℕ) (objects : List Object) (table : Table) (fault : VerifyFault) (refused : Refusal) → read ≡ bytes → section_check bytes at ≡ Ok tt → Section bytes at table
    → IsFirstVerifyFault read table objects fault → (fault ≡ verify_fault.NoMemory → refused ≡ refusal.Memory) → ComesAs (λ (c : Coming). c ≡ coming_of_verifying fault) refused
    → ComesAs (VerifyComesFrom at bytes objects (section_check bytes at)) refused
unverified_comes at bytes read objects table fault refused same checked of_bytes (inl none) memory tells = memory_comes (VerifyComesFrom at bytes objects (section_check bytes at)) refused (memory none)
unverified_comes at bytes read objects table fault refused same checked of_bytes (inr first) memory tells =
    comes_as (λ (c : Coming). c ≡ coming_of_verifying fault) (VerifyComesFrom at bytes objects (section_check bytes at))
    (λ c e. subst (λ (check : Result (Unit {0}) DecodeFault). VerifyComesFrom at bytes objects check c) (sym checked)
    record { table = table; of_bytes = of_bytes; result = Err fault; verifies = subst (λ (b : List ℕ). Verifies b table objects (Err fault)) same first; is = e }) refused tells

pub undecoded_comes : (at : ℕ) (bytes : List ℕ) (objects : List Object) (fault : DecodeFault) (refused : Refusal) → section_check bytes at ≡ Err fault → ComesAs (λ (c : Coming). c ≡ coming_of_decoding 0 fault) refused
    → ComesAs (VerifyComesFrom at bytes objects (section_check bytes at)) refused
undecoded_comes at bytes objects fault refused checked tells =
    subst (λ (check : Result (Unit {0}) DecodeFault). ComesAs (VerifyComesFrom at bytes objects check) refused) (sym checked) tells
