-- What merging returns, by what it comes to.
use Rattle.std.specs.Prelude.{◌≡◌, ℕ, List, length, filter_map, Some, Ok, Err}
use Rattle.std.proofs.Common.{refl, ap, ◌∙◌}
use Rattle.sf_decode.specs.declared.kept.LentSection.{LentSection}
use Rattle.sf_decode.specs.Kept.{table_lent}
use Rattle.sf_merge.specs.declared.fault.MergeFault.{MergeFault}
use Rattle.sf_merge.specs.Answers.{IsFirstMergeFault, IsMerged}
use Rattle.sf_link_c.specs.declared.refusals.KiblawenRefusal.{KiblawenRefusal}
use Rattle.sf_link_c.specs.declared.made.KiblawenMade.{KiblawenMade}
use Rattle.sf_link_c.specs.Room.{room_answer, section_written}
use Rattle.sf_link_c.specs.Refusals.{no_refusal}
use Rattle.sf_link_c.specs.Merging.{Answers, AreOpen, fault_answer, refusal_of}
use Rattle.sf_link_c.specs.Slimming.{Made, nothing_made}
use Rattle.sf_link_c.proofs.Slimmed.{shown_as}

pub made_answers : (sections : List LentSection) (at answer : ℕ) (out out' : List ℕ) (made : Made) (len : ℕ) (given : List ℕ) (why : KiblawenRefusal)
    → AreOpen sections → IsMerged (filter_map table_lent sections) at made.section made.functions made.rows
    → given ≡ made.section → len ≡ length made.section → why ≡ no_refusal
    → answer ≡ room_answer given (length out) → out' ≡ section_written given out
    → Answers sections at answer out out' (record { len = len; functions = made.functions; rows = made.rows; why = why })
made_answers sections at answer out out' made len given why are_open merged same l w status written = record {
  coming = Some (Ok made);
  comes = (are_open, merged);
  answer_is = status ∙ ap (λ (s : List ℕ). room_answer s (length out)) same;
  section_is = written ∙ ap (λ (s : List ℕ). section_written s out) same;
  merged_is = ap (λ (n : ℕ). shown_as n made.functions made.rows why) l ∙ ap (λ (r : KiblawenRefusal). shown_as (length made.section) made.functions made.rows r) w;
}

pub refused_answers : (sections : List LentSection) (at answer : ℕ) (out : List ℕ) (fault : MergeFault) (why : KiblawenRefusal) (merged : KiblawenMade)
    → AreOpen sections → IsFirstMergeFault (filter_map table_lent sections) at fault → answer ≡ fault_answer fault → merged ≡ nothing_made why → why ≡ refusal_of fault
    → Answers sections at answer out out merged
refused_answers sections at answer out fault why merged are_open first status nothing shown = record {
  coming = Some (Err fault);
  comes = (are_open, first);
  answer_is = status;
  section_is = refl;
  merged_is = nothing ∙ ap nothing_made shown;
}
