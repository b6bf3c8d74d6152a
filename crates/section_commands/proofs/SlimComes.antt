-- What `slim` comes to: what it makes, and one thing.
use Rattle.std.proofs.Common.{◌≡◌, ℕ, List, [], length, get_or, Some, Result, Ok, Err, refl, ap, sym, subst, ◌∙◌, arith, inl, inr}
use Rattle.sf_model.specs.declared.function.Func.{Func}
use Rattle.sf_model.specs.Table.{Table, row_count}
use Rattle.sf_model.specs.Tight.{Narrow, Tight}
use Rattle.sf_model.proofs.TableSame.{table_same}
use Rattle.sf_model.proofs.TightOne.{tight_one}
use Rattle.sf_write.specs.Section.{table_of}
use Rattle.sf_decode.specs.declared.fault.DecodeFault.{DecodeFault}
use Rattle.sf_decode.specs.Decoding.{section_check, table_in}
use Rattle.sf_slim.specs.declared.fault.SlimFault.{SlimFault}
use Rattle.sf_slim.specs.declared.fault.SlimFault.TheVariants as slim_fault
use Rattle.sf_slim.specs.Slimming as slimming
use Rattle.sf_slim.specs.Slimming.{Slims}
use Rattle.sf_slim.proofs.OneResult.{one_result as one_slim}
use Rattle.sf_text.specs.Slim.{slim_text}
use Rattle.section_commands.specs.declared.made.Outcome.TheVariants.{Done}
use Rattle.section_commands.specs.Coming.{Coming, Makes, Refused}
use Rattle.section_commands.specs.SectionComes.{coming_of_decoding}
use Rattle.section_commands.specs.Slim.{IsSlim, MakesSlim, SlimComes, SlimComesFrom, SlimWords, SlimmingComes, slim_files}
use Rattle.sf_model.specs.Section.{AreBytes, Section}
use Rattle.sf_decode.proofs.EntriesRead.{section_stands}
use Rattle.sf_merge.proofs.SomeResult.{some_order}
use Rattle.sf_slim.specs.FaultShown.{shown_of_slimming}
use Rattle.section_commands.proofs.SectionsFit.{some_slimmed}
use Rattle.sf_slim.specs.Answers.{IsFirstSlimFault, IsSlimmed}
use Rattle.sf_words.specs.declared.refusal.Refusal.{Refusal}
use Rattle.sf_words.specs.declared.refusal.Refusal.TheVariants as refusal
use Rattle.section_commands.specs.Making.{ComesAs}
use Rattle.section_commands.proofs.Making.{comes_as, memory_comes}
use Rattle.section_commands.proofs.ComesToOne.{ComesToOne, bytes_at}

-- ---- what it makes is what it comes to
pub slimmed_comes : (from at : ℕ) (bytes read : List ℕ) (table : Table) (section text : List ℕ) (count rows : ℕ) → read ≡ bytes → section_check bytes from ≡ Ok tt → Section bytes from table
    → IsSlimmed read table at section count rows → text ≡ slim_text (length bytes) (length section) count rows → SlimComesFrom from bytes at (section_check bytes from) (Makes Done (Some section) text)
slimmed_comes from at bytes read table section text count rows same checked of_bytes made text_is =
    let slimmed = subst (λ (b : List ℕ). IsSlimmed b table at section count rows) same made in
    subst (λ (check : Result (Unit {0}) DecodeFault). SlimComesFrom from bytes at check (Makes Done (Some section) text)) (sym checked) record {
      table = table;
      of_bytes = of_bytes;
      result = Ok slimmed.needed;
      slims = slimmed.are;
      comes = record { section = section; text = text; count = count; rows = rows; slimmed = slimmed; text_is = text_is; is = refl };
    }

pub unslimmed_comes : (from at : ℕ) (bytes read : List ℕ) (table : Table) (fault : SlimFault) (refused : Refusal) → read ≡ bytes → section_check bytes from ≡ Ok tt → Section bytes from table
    → IsFirstSlimFault read table at fault → (fault ≡ slim_fault.NoMemory → refused ≡ refusal.Memory) → ComesAs (λ (c : Coming). c ≡ Refused (shown_of_slimming (Some 0) fault)) refused
    → ComesAs (SlimComesFrom from bytes at (section_check bytes from)) refused
unslimmed_comes from at bytes read table fault refused same checked of_bytes (inl none) memory tells = memory_comes (SlimComesFrom from bytes at (section_check bytes from)) refused (memory none)
unslimmed_comes from at bytes read table fault refused same checked of_bytes (inr first) memory tells =
    comes_as (λ (c : Coming). c ≡ Refused (shown_of_slimming (Some 0) fault)) (SlimComesFrom from bytes at (section_check bytes from))
    (λ c e. subst (λ (check : Result (Unit {0}) DecodeFault). SlimComesFrom from bytes at check c) (sym checked)
    record { table = table; of_bytes = of_bytes; result = Err fault; slims = subst (λ (b : List ℕ). Slims b table at (Err fault)) same first; comes = e }) refused tells

-- ---- one thing at most
one_slimmed : (bytes : List ℕ) (table : Table) (at : ℕ) (c d : Coming) → MakesSlim bytes table at c → MakesSlim bytes table at d → c ≡ d
one_slimmed bytes table at c d p q =
    let same = one_slim bytes table at (Ok p.slimmed.needed) (Ok q.slimmed.needed) p.slimmed.are q.slimmed.are in
    let needed : p.slimmed.needed ≡ q.slimmed.needed = cc in
    let whole : table_of table.arch p.slimmed.needed ≡ table_of table.arch q.slimmed.needed = ap (table_of table.arch) needed in
    let sections = tight_one p.section q.section at (table_of table.arch q.slimmed.needed) p.slimmed.are_bytes q.slimmed.are_bytes
    (subst (Tight p.section at) whole p.slimmed.tight) q.slimmed.tight (subst (Narrow p.section) whole p.slimmed.narrow) q.slimmed.narrow in
    let texts : p.text ≡ q.text = p.text_is ∙ ap (λ (s : List ℕ). slim_text (length bytes) (length s) p.count p.rows) sections
    ∙ ap (λ (n : ℕ). slim_text (length bytes) (length q.section) n p.rows) (p.slimmed.function_count ∙ ap (λ (fs : List Func). length fs) needed ∙ sym q.slimmed.function_count)
    ∙ ap (λ (n : ℕ). slim_text (length bytes) (length q.section) q.count n) (p.slimmed.row_count ∙ ap (λ (fs : List Func). row_count fs) needed ∙ sym q.slimmed.row_count) ∙ sym q.text_is in
    p.is ∙ ap (λ (s : List ℕ). Makes Done (Some s) p.text) sections ∙ ap (λ (t : List ℕ). Makes Done (Some q.section) t) texts ∙ sym q.is

one_from_slims : (bytes : List ℕ) (table : Table) (at : ℕ) (result : Result (List Func) SlimFault) (c d : Coming) → SlimmingComes bytes table at result c → SlimmingComes bytes table at result d → c ≡ d
one_from_slims bytes table at (Err fault) c d p q = p ∙ sym q
one_from_slims bytes table at (Ok functions) c d p q = one_slimmed bytes table at c d p q

one_slim_from : (from : ℕ) (bytes : List ℕ) (at : ℕ) (check : Result (Unit {0}) DecodeFault) (c d : Coming) → SlimComesFrom from bytes at check c → SlimComesFrom from bytes at check d → c ≡ d
one_slim_from from bytes at (Err fault) c d p q = p ∙ sym q
one_slim_from from bytes at (Ok u) c d p q =
    let tables = table_same bytes from p.table q.table p.of_bytes q.of_bytes in
    let result = one_slim bytes q.table at p.result q.result (subst (λ (t : Table). Slims bytes t at p.result) tables p.slims) q.slims in
    let comes = subst (λ (t : Table). SlimmingComes bytes t at p.result c) tables p.comes in
    one_from_slims bytes q.table at q.result c d (subst (λ (r : Result (List Func) SlimFault). SlimmingComes bytes q.table at r c) result comes) q.comes

-- ---- something
some_slimming : (from at : ℕ) (bytes : List ℕ) → AreBytes bytes → section_check bytes from ≡ Ok tt → (result : Result (List Func) SlimFault) → Slims bytes (table_in bytes from) at result
    → (coming : Coming) × SlimmingComes bytes (table_in bytes from) at result coming
some_slimming from at bytes are e (Err fault) h = (Refused (shown_of_slimming (Some 0) fault), refl)
some_slimming from at bytes are e (Ok functions) h =
    let made = some_slimmed bytes from at functions are e h in
    (_, record { section = made.0; text = slim_text (length bytes) (length made.0) made.1 made.2; count = made.1; rows = made.2; slimmed = made.3; text_is = refl; is = refl })

some_slim_from : (from at : ℕ) (bytes : List ℕ) → AreBytes bytes → (check : Result (Unit {0}) DecodeFault) → section_check bytes from ≡ check → (coming : Coming) × SlimComesFrom from bytes at check coming
some_slim_from from at bytes are (Err fault) e = (coming_of_decoding 0 fault, refl)
some_slim_from from at bytes are (Ok tt) e =
    let table = table_in bytes from in
    let order = some_order (slimming.sized_in table) in
    let result = slimming.unless_fault (slimming.or_later (slimming.slim_overlap_fault bytes order.0) (slimming.slim_reach_fault at (slimming.slimmed order.0))) (slimming.slimmed order.0) in
    let slims : Slims bytes table at result = (order.0, order.1, refl) in
    let comes = some_slimming from at bytes are e result slims in
    (comes.0, record { table = table; of_bytes = section_stands bytes from are e; result = result; slims = slims; comes = comes.1 })

-- ---- one thing
pub slim_comes_to_one : (slim : SlimWords) → ComesToOne (λ words. IsSlim words slim) (slim_files slim) (λ items coming. SlimComes slim items coming)
slim_comes_to_one slim = record {
  one = λ asked items count c d p q. one_slim_from slim.section.at (get_or items 0 []) slim.out.at (section_check (get_or items 0 []) slim.section.at) c d p q;
  some = λ asked items count bytes.
      some_slim_from slim.section.at slim.out.at (get_or items 0 []) (bytes_at items 0 bytes (omega (count, arith))) (section_check (get_or items 0 []) slim.section.at) refl;
}
