-- What linking returns, by what it comes to.
use Rattle.std.specs.Prelude.{◌≡◌, ℕ, List, length, map, Some, None, Ok, Err, IsTrue}
use Rattle.std.proofs.Common.{refl, ap, ◌∙◌}
use Rattle.sf_model.specs.declared.omission.Omitted.{Omitted}
use Rattle.sf_asm.specs.declared.fault.LinkFault.{LinkFault}
use Rattle.sf_asm.specs.Answers.{IsFirstLinked, IsLinked}
use Rattle.sf_asm.specs.Fault.{is_answered}
use Rattle.sf_link_c.specs.declared.inputs.KiblawenInput.{KiblawenInput}
use Rattle.sf_link_c.specs.declared.linked.KiblawenLinked.{KiblawenLinked}
use Rattle.sf_link_c.specs.declared.omissions.KiblawenOmission.{KiblawenOmission}
use Rattle.sf_link_c.specs.declared.refusals.KiblawenRefusal.{KiblawenRefusal}
use Rattle.sf_link_c.specs.Inputs.{AreFit, object_of_input}
use Rattle.sf_link_c.specs.Linking.{Answers, Made, nothing_linked}
use Rattle.sf_link_c.specs.Omissions.{listed, omission_shown}
use Rattle.sf_link_c.specs.Refusals.{fault_answer, no_refusal, refusal_of}
use Rattle.sf_link_c.specs.Room.{room_answer, section_written}

abbrev pub shown_as : (len kept omitted plts : ℕ) → KiblawenRefusal → KiblawenLinked
shown_as len kept omitted plts why = record { len = len; functions = kept; omitted = omitted; plts = plts; why = why }

pub linked_as : {len len' kept omitted omitted' plts plts' : ℕ} {why : KiblawenRefusal} → len ≡ len' → omitted ≡ omitted' → plts ≡ plts' → why ≡ no_refusal
    → shown_as len kept omitted plts why ≡ shown_as len' kept omitted' plts' no_refusal
linked_as {len} {len'} {kept} {omitted} {omitted'} {plts} {plts'} {why} l o p w =
    ap (λ (n : ℕ). shown_as n kept omitted plts why) l
    ∙ ap (λ (n : ℕ). shown_as len' kept n plts why) o
    ∙ ap (λ (n : ℕ). shown_as len' kept omitted' n why) p
    ∙ ap (λ (r : KiblawenRefusal). shown_as len' kept omitted' plts' r) w

pub made_answers : (inputs : List KiblawenInput) (at answer : ℕ) (out out' : List ℕ) (omitted omitted' : List KiblawenOmission) (made : Made) (len count : ℕ) (section : List ℕ) (given : List Omitted) (why : KiblawenRefusal)
    → AreFit inputs → IsLinked None (map object_of_input inputs) at made.section made.kept made.omitted
    → section ≡ made.section → given ≡ made.omitted → len ≡ length made.section → count ≡ length made.omitted → why ≡ no_refusal
    → answer ≡ room_answer section (length out) → out' ≡ section_written section out → omitted' ≡ listed omission_shown given omitted
    → Answers inputs at answer out out' omitted omitted' (shown_as len made.kept count 0 why)
made_answers inputs at answer out out' omitted omitted' made len count section given why fit linked same others l o w is written written_too = record {
  coming = Some (Ok made);
  comes = (fit, linked);
  answer_is = is ∙ ap (λ (s : List ℕ). room_answer s (length out)) same;
  section_is = written ∙ ap (λ (s : List ℕ). section_written s out) same;
  omissions_are = written_too ∙ ap (λ (os : List Omitted). listed omission_shown os omitted) others;
  linked_is = linked_as l o refl w;
}

pub refused_answers : (inputs : List KiblawenInput) (at answer : ℕ) (out : List ℕ) (omitted : List KiblawenOmission) (fault : LinkFault) (why : KiblawenRefusal) (linked : KiblawenLinked)
    → AreFit inputs → IsFirstLinked None (map object_of_input inputs) at fault → IsTrue (is_answered fault) → answer ≡ fault_answer fault → linked ≡ nothing_linked why → why ≡ refusal_of fault
    → Answers inputs at answer out out omitted omitted linked
refused_answers inputs at answer out omitted fault why linked fit first answered is nothing shown = record {
  coming = Some (Err fault);
  comes = (fit, first, answered);
  answer_is = is;
  section_is = refl;
  omissions_are = refl;
  linked_is = nothing ∙ ap nothing_linked shown;
}
