-- What `upgrade` comes to: what it makes, and one thing.
use Rattle.std.proofs.Common.{◌≡◌, ℕ, List, [], get_or, length, Some, Result, Ok, Err, refl, ap, sym, subst, ◌∙◌, arith, inl, inr}
use Rattle.sf_model.specs.declared.function.Func.{Func}
use Rattle.sf_model.specs.Firsts.{or_later, unless_fault}
use Rattle.sf_model.specs.Section.{AreBytes, Section}
use Rattle.sf_model.specs.Table.{Table, row_count}
use Rattle.sf_model.proofs.TableSame.{table_same}
use Rattle.sf_decode.specs.declared.fault.DecodeFault.{DecodeFault}
use Rattle.sf_decode.specs.Decoding.{section_check, table_in}
use Rattle.sf_decode.proofs.EntriesRead.{section_stands}
use Rattle.sf_merge.specs.Merging.{merged_functions}
use Rattle.sf_merge.specs.OneSection.{sized_in}
use Rattle.sf_merge.proofs.SomeResult.{some_order}
use Rattle.sf_text.specs.Upgraded.{upgraded_text}
use Rattle.sf_words.specs.declared.refusal.Refusal.{Refusal}
use Rattle.sf_words.specs.declared.refusal.Refusal.TheVariants as refusal
use Rattle.sf3_upgrade.specs.declared.fault.UpgradeFault.{UpgradeFault}
use Rattle.sf3_upgrade.specs.declared.fault.UpgradeFault.TheVariants as upgrade_fault
use Rattle.sf3_upgrade.specs.Answers.{IsFirstFault, IsUpgraded}
use Rattle.sf3_upgrade.specs.FaultShown.{shown_of_upgrading}
use Rattle.sf3_upgrade.specs.Upgrading.{Upgrades, overlap_fault, rows_fault}
use Rattle.sf3_upgrade.proofs.SomeUpgraded.{some_upgraded}
use Rattle.sf3_upgrade.proofs.Written.{one_list, one_result, one_section}
use Rattle.section_commands.specs.declared.made.Outcome.TheVariants.{Done}
use Rattle.section_commands.specs.Coming.{Coming, Makes, Refused}
use Rattle.section_commands.specs.Making.{ComesAs}
use Rattle.section_commands.specs.SectionComes.{coming_of_decoding}
use Rattle.section_commands.specs.Upgrade.{IsUpgrade, MakesUpgraded, UpgradeComes, UpgradeComesFrom, UpgradeWords, UpgradingComes, upgrade_files}
use Rattle.section_commands.proofs.ComesToOne.{ComesToOne, bytes_at}
use Rattle.section_commands.proofs.Making.{comes_as, memory_comes}

-- ---- what it makes is what it comes to
pub upgraded_comes : (from at : ℕ) (bytes read : List ℕ) (table : Table) (section text : List ℕ) (count rows : ℕ) → read ≡ bytes → section_check bytes from ≡ Ok tt → Section bytes from table
    → IsUpgraded read table at section count rows → text ≡ upgraded_text count rows → UpgradeComesFrom from bytes at (section_check bytes from) (Makes Done (Some section) text)
upgraded_comes from at bytes read table section text count rows same checked of_bytes made text_is =
    let upgraded = subst (λ (b : List ℕ). IsUpgraded b table at section count rows) same made in
    subst (λ (check : Result (Unit {0}) DecodeFault). UpgradeComesFrom from bytes at check (Makes Done (Some section) text)) (sym checked) record {
      table = table;
      of_bytes = of_bytes;
      result = Ok upgraded.functions;
      upgrades = upgraded.are;
      comes = record { section = section; text = text; count = count; rows = rows; upgraded = upgraded; text_is = text_is; is = refl };
    }

pub not_upgraded_comes : (from at : ℕ) (bytes read : List ℕ) (table : Table) (fault : UpgradeFault) (refused : Refusal) → read ≡ bytes → section_check bytes from ≡ Ok tt → Section bytes from table
    → IsFirstFault read table fault → (fault ≡ upgrade_fault.NoMemory → refused ≡ refusal.Memory) → ComesAs (λ (c : Coming). c ≡ Refused (shown_of_upgrading (Some 0) fault)) refused
    → ComesAs (UpgradeComesFrom from bytes at (section_check bytes from)) refused
not_upgraded_comes from at bytes read table fault refused same checked of_bytes (inl none) memory tells = memory_comes (UpgradeComesFrom from bytes at (section_check bytes from)) refused (memory none)
not_upgraded_comes from at bytes read table fault refused same checked of_bytes (inr first) memory tells =
    comes_as (λ (c : Coming). c ≡ Refused (shown_of_upgrading (Some 0) fault)) (UpgradeComesFrom from bytes at (section_check bytes from))
    (λ c e. subst (λ (check : Result (Unit {0}) DecodeFault). UpgradeComesFrom from bytes at check c) (sym checked)
    record { table = table; of_bytes = of_bytes; result = Err fault; upgrades = subst (λ (b : List ℕ). Upgrades b table (Err fault)) same first; comes = e }) refused tells

-- ---- one thing at most
one_upgraded : (bytes : List ℕ) (table : Table) (at : ℕ) (c d : Coming) → MakesUpgraded bytes table at c → MakesUpgraded bytes table at d → c ≡ d
one_upgraded bytes table at c d p q =
    let functions = one_list bytes table at p.section q.section p.count p.rows q.count q.rows p.upgraded q.upgraded in
    let sections = one_section bytes table at p.section q.section p.count p.rows q.count q.rows p.upgraded q.upgraded in
    let texts : p.text ≡ q.text = p.text_is
    ∙ ap (λ (n : ℕ). upgraded_text n p.rows) (p.upgraded.count_is ∙ ap (λ (fs : List Func). length fs) functions ∙ sym q.upgraded.count_is)
    ∙ ap (λ (n : ℕ). upgraded_text q.count n) (p.upgraded.rows_are ∙ ap (λ (fs : List Func). row_count fs) functions ∙ sym q.upgraded.rows_are) ∙ sym q.text_is in
    p.is ∙ ap (λ (s : List ℕ). Makes Done (Some s) p.text) sections ∙ ap (λ (t : List ℕ). Makes Done (Some q.section) t) texts ∙ sym q.is

one_from_result : (bytes : List ℕ) (table : Table) (at : ℕ) (result : Result (List Func) UpgradeFault) (c d : Coming) → UpgradingComes bytes table at result c → UpgradingComes bytes table at result d → c ≡ d
one_from_result bytes table at (Err fault) c d p q = p ∙ sym q
one_from_result bytes table at (Ok functions) c d p q = one_upgraded bytes table at c d p q

one_from : (from : ℕ) (bytes : List ℕ) (at : ℕ) (check : Result (Unit {0}) DecodeFault) (c d : Coming) → UpgradeComesFrom from bytes at check c → UpgradeComesFrom from bytes at check d → c ≡ d
one_from from bytes at (Err fault) c d p q = p ∙ sym q
one_from from bytes at (Ok u) c d p q =
    let tables = table_same bytes from p.table q.table p.of_bytes q.of_bytes in
    let result = one_result bytes q.table p.result q.result (subst (λ (t : Table). Upgrades bytes t p.result) tables p.upgrades) q.upgrades in
    let comes = subst (λ (t : Table). UpgradingComes bytes t at p.result c) tables p.comes in
    one_from_result bytes q.table at q.result c d (subst (λ (r : Result (List Func) UpgradeFault). UpgradingComes bytes q.table at r c) result comes) q.comes

-- ---- something
some_upgrading : (from at : ℕ) (bytes : List ℕ) → AreBytes bytes → section_check bytes from ≡ Ok tt → (result : Result (List Func) UpgradeFault) → Upgrades bytes (table_in bytes from) result
    → (coming : Coming) × UpgradingComes bytes (table_in bytes from) at result coming
some_upgrading from at bytes are e (Err fault) h = (Refused (shown_of_upgrading (Some 0) fault), refl)
some_upgrading from at bytes are e (Ok functions) h =
    let made = some_upgraded bytes from at functions are e h in
    (_, record { section = made.0; text = upgraded_text made.1 made.2; count = made.1; rows = made.2; upgraded = made.3; text_is = refl; is = refl })

some_from : (from at : ℕ) (bytes : List ℕ) → AreBytes bytes → (check : Result (Unit {0}) DecodeFault) → section_check bytes from ≡ check → (coming : Coming) × UpgradeComesFrom from bytes at check coming
some_from from at bytes are (Err fault) e = (coming_of_decoding 0 fault, refl)
some_from from at bytes are (Ok tt) e =
    let table = table_in bytes from in
    let order = some_order (sized_in table) in
    let functions = merged_functions order.0 in
    let result = unless_fault (or_later (overlap_fault bytes order.0) (rows_fault functions)) functions in
    let upgrades : Upgrades bytes table result = (order.0, order.1, refl) in
    let comes = some_upgrading from at bytes are e result upgrades in
    (comes.0, record { table = table; of_bytes = section_stands bytes from are e; result = result; upgrades = upgrades; comes = comes.1 })

-- ---- one thing
pub upgrade_comes_to_one : (upgrade : UpgradeWords) → ComesToOne (λ words. IsUpgrade words upgrade) (upgrade_files upgrade) (λ items coming. UpgradeComes upgrade items coming)
upgrade_comes_to_one upgrade = record {
  one = λ asked items count c d p q. one_from upgrade.section.at (get_or items 0 []) upgrade.out.at (section_check (get_or items 0 []) upgrade.section.at) c d p q;
  some = λ asked items count bytes.
      some_from upgrade.section.at upgrade.out.at (get_or items 0 []) (bytes_at items 0 bytes (omega (count, arith))) (section_check (get_or items 0 []) upgrade.section.at) refl;
}
