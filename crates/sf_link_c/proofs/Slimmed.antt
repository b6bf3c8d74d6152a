-- What slimming returns, by what it comes to.
use Rattle.std.specs.Prelude.{◌≡◌, ℕ, List, length, Some, Ok, Err}
use Rattle.std.proofs.Common.{refl, ap, subst, ◌∙◌}
use Rattle.sf_model.specs.Table.{Table}
use Rattle.sf_decode.specs.declared.kept.LentSection.{LentSection}
use Rattle.sf_decode.specs.Kept.{bytes_lent, table_lent}
use Rattle.sf_slim.specs.declared.fault.SlimFault.{SlimFault}
use Rattle.sf_slim.specs.Answers.{IsFirstSlimFault, IsSlimmed}
use Rattle.sf_link_c.specs.declared.refusals.KiblawenRefusal.{KiblawenRefusal}
use Rattle.sf_link_c.specs.declared.made.KiblawenMade.{KiblawenMade}
use Rattle.sf_link_c.specs.Room.{room_answer, section_written}
use Rattle.sf_link_c.specs.Refusals.{no_refusal}
use Rattle.sf_link_c.specs.Slimming.{Answers, Made, fault_answer, nothing_made, refusal_of}

abbrev pub shown_as : (len functions rows : ℕ) → KiblawenRefusal → KiblawenMade
shown_as len functions rows why = record { len = len; functions = functions; rows = rows; why = why }

pub made_answers : (section : LentSection) (at answer : ℕ) (out out' : List ℕ) (bytes : List ℕ) (table : Table) (made : Made) (len : ℕ) (given : List ℕ) (why : KiblawenRefusal)
    → table_lent section ≡ Some table → bytes ≡ bytes_lent section → IsSlimmed bytes table at made.section made.functions made.rows
    → given ≡ made.section → len ≡ length made.section → why ≡ no_refusal
    → answer ≡ room_answer given (length out) → out' ≡ section_written given out
    → Answers section at answer out out' (record { len = len; functions = made.functions; rows = made.rows; why = why })
made_answers section at answer out out' bytes table made len given why is_open lent slimmed same l w status written = record {
  coming = Some (Ok made);
  comes = (table, is_open, subst (λ (b : List ℕ). IsSlimmed b table at made.section made.functions made.rows) lent slimmed);
  answer_is = status ∙ ap (λ (s : List ℕ). room_answer s (length out)) same;
  section_is = written ∙ ap (λ (s : List ℕ). section_written s out) same;
  slimmed_is = ap (λ (n : ℕ). shown_as n made.functions made.rows why) l ∙ ap (λ (r : KiblawenRefusal). shown_as (length made.section) made.functions made.rows r) w;
}

pub refused_answers : (section : LentSection) (at answer : ℕ) (out : List ℕ) (bytes : List ℕ) (table : Table) (fault : SlimFault) (why : KiblawenRefusal) (slimmed : KiblawenMade)
    → table_lent section ≡ Some table → bytes ≡ bytes_lent section → IsFirstSlimFault bytes table at fault → answer ≡ fault_answer fault → slimmed ≡ nothing_made why → why ≡ refusal_of fault
    → Answers section at answer out out slimmed
refused_answers section at answer out bytes table fault why slimmed is_open lent first status nothing shown = record {
  coming = Some (Err fault);
  comes = (table, is_open, subst (λ (b : List ℕ). IsFirstSlimFault b table at fault) lent first);
  answer_is = status;
  section_is = refl;
  slimmed_is = nothing ∙ ap nothing_made shown;
}
