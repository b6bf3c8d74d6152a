-- What linking with procedure linkage tables returns, by what it comes to.
use Rattle.std.specs.Prelude.{◌≡◌, ℕ, List, length, map, Some, None, Ok, Err, IsTrue}
use Rattle.std.proofs.Common.{refl, ap, ◌∙◌}
use Rattle.sf_model.specs.declared.omission.Omitted.{Omitted}
use Rattle.sf_model.specs.declared.omission.Span.{Span}
use Rattle.sf_asm.specs.declared.fault.LinkFault.{LinkFault}
use Rattle.sf_asm.specs.Fault.{is_answered}
use Rattle.sf_plt.specs.Answers.{IsFirstPltLinked, IsPltLinked}
use Rattle.sf_link_c.specs.declared.inputs.KiblawenInput.{KiblawenInput}
use Rattle.sf_link_c.specs.declared.linked.KiblawenLinked.{KiblawenLinked}
use Rattle.sf_link_c.specs.declared.omissions.KiblawenOmission.{KiblawenOmission}
use Rattle.sf_link_c.specs.declared.omissions.KiblawenPlt.{KiblawenPlt}
use Rattle.sf_link_c.specs.declared.refusals.KiblawenRefusal.{KiblawenRefusal}
use Rattle.sf_link_c.specs.Inputs.{AreFit, object_of_input}
use Rattle.sf_link_c.specs.Linking.{nothing_linked}
use Rattle.sf_link_c.specs.LinkingPlt.{Answers, Made}
use Rattle.sf_link_c.specs.Omissions.{listed, omission_shown, plt_shown}
use Rattle.sf_link_c.specs.Refusals.{fault_answer, no_refusal, refusal_of}
use Rattle.sf_link_c.specs.Room.{room_answer, section_written}
use Rattle.sf_link_c.proofs.Answering.{linked_as, shown_as}

pub made_answers : (inputs : List KiblawenInput) (at answer : ℕ) (out out' : List ℕ) (omitted omitted' : List KiblawenOmission) (plts plts' : List KiblawenPlt) (made : Made) (len count tables : ℕ) (section : List ℕ) (given : List Omitted) (given_plts : List Span) (why : KiblawenRefusal)
    → AreFit inputs → IsPltLinked None (map object_of_input inputs) at made.section made.kept made.omitted made.plts
    → section ≡ made.section → given ≡ made.omitted → given_plts ≡ made.plts → len ≡ length made.section → count ≡ length made.omitted → tables ≡ length made.plts → why ≡ no_refusal
    → answer ≡ room_answer section (length out) → out' ≡ section_written section out → omitted' ≡ listed omission_shown given omitted → plts' ≡ listed plt_shown given_plts plts
    → Answers inputs at answer out out' omitted omitted' plts plts' (shown_as len made.kept count tables why)
made_answers inputs at answer out out' omitted omitted' plts plts' made len count tables section given given_plts why fit linked same others pairs l o p w is written omissions_written plts_written = record {
  coming = Some (Ok made);
  comes = (fit, linked);
  answer_is = is ∙ ap (λ (s : List ℕ). room_answer s (length out)) same;
  section_is = written ∙ ap (λ (s : List ℕ). section_written s out) same;
  omissions_are = omissions_written ∙ ap (λ (os : List Omitted). listed omission_shown os omitted) others;
  plts_are = plts_written ∙ ap (λ (ps : List Span). listed plt_shown ps plts) pairs;
  linked_is = linked_as l o p w;
}

pub refused_answers : (inputs : List KiblawenInput) (at answer : ℕ) (out : List ℕ) (omitted : List KiblawenOmission) (plts : List KiblawenPlt) (fault : LinkFault) (why : KiblawenRefusal) (linked : KiblawenLinked)
    → AreFit inputs → IsFirstPltLinked None (map object_of_input inputs) at fault → IsTrue (is_answered fault) → answer ≡ fault_answer fault → linked ≡ nothing_linked why → why ≡ refusal_of fault
    → Answers inputs at answer out out omitted omitted plts plts linked
refused_answers inputs at answer out omitted plts fault why linked fit first answered is nothing shown = record {
  coming = Some (Err fault);
  comes = (fit, first, answered);
  answer_is = is;
  section_is = refl;
  omissions_are = refl;
  plts_are = refl;
  linked_is = nothing ∙ ap nothing_linked shown;
}
