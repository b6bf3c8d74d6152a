-- Linking and verifying come to one thing at most.
use Rattle.std.proofs.Common.{◌≡◌, ◌<◌, ℕ, List, [], ◌∷◌, map, length, Option, Some, None, Result, Ok, Err, ap, sym, subst, ◌∙◌, arith}
use Rattle.sf_model.specs.declared.machine.Arch.{Arch}
use Rattle.sf_model.specs.declared.omission.Omitted.{Omitted}
use Rattle.sf_model.specs.declared.omission.Span.{Span}
use Rattle.sf_model.specs.Section.{AreBytes}
use Rattle.sf_model.specs.Table.{Table}
use Rattle.sf_model.specs.Tight.{Narrow, Tight}
use Rattle.sf_model.proofs.TableSame.{table_same}
use Rattle.sf_model.proofs.TightOne.{tight_one}
use Rattle.sf_write.specs.Section.{table_of}
use Rattle.sf_decode.specs.declared.fault.DecodeFault.{DecodeFault}
use Rattle.elf_read.specs.Header.{arch_of}
use Rattle.core_notes.specs.declared.fault.CoreFault.{CoreFault}
use Rattle.frame_functions.specs.declared.read_function.ReadFunction.{ReadFunction}
use Rattle.sf_asm.specs.declared.fault.LinkFault.{LinkFault}
use Rattle.sf_asm.specs.Answers.{IsLinked}
use Rattle.frame_functions.specs.ReadFunction.{kept_of, omitted_of}
use Rattle.frame_functions.specs.Functions.{Function}
use Rattle.sf_asm.specs.Functions.{Object}
use Rattle.sf_asm.specs.Inputs.{HaveMachine, first_item}
use Rattle.frame_functions.specs.Kept.{read_of, kept_functions, omitted_functions}
use Rattle.frame_functions.specs.Order.{InOrder}
use Rattle.frame_functions.specs.Descriptions.{AreByStart}
use Rattle.sf_asm.proofs.Described.{described}
use Rattle.sf_asm.proofs.OneOrder.{one_order, one_result}
use Rattle.sf_plt.specs.Answers.{IsPltLinked, others_in, plt_span}
use Rattle.sf_plt.specs.Plt.{plt_functions}
use Rattle.sf_plt.specs.Written.{written_functions}
use Rattle.sf_plt.proofs.Faults.{one_sorted, one_result as one_plt_result}
use Rattle.sf_verify.specs.Verifying.{Verifies}
use Rattle.sf_verify.proofs.OneVerdict.{one_result as one_verdict}
use Rattle.sf_text.specs.PltReport.{plt_report_text}
use Rattle.sf_words.specs.Items.{Input as InputItem}
use Rattle.sf_words.specs.Words.{InputWords}
use Rattle.section_commands.specs.declared.made.Outcome.TheVariants.{Done}
use Rattle.section_commands.specs.Coming.{Coming, Makes}
use Rattle.sf_run.specs.Backtrace.{BacktraceComesFrom, section_and_walks}
use Rattle.sf_run.specs.Inputs.{objects_in}
use Rattle.sf_run.specs.LinkPlt.{MakesPltLinked, ObjectsCome, PltLinkedComes}
use Rattle.sf_run.specs.Linked.{LinkedComes, LinkedComesFrom, Makings, MakesLinked}
use Rattle.sf_run.specs.Verify.{VerifyComesFrom, coming_of_verdict}

-- ---- link
pub one_machine : (before : Option Arch) (objects : List Object) → 0 < length objects → (a b : Arch) → HaveMachine before objects a → HaveMachine before objects b → a ≡ b
one_machine before [] some a b p q = let none : ⊥ = omega (arith, some) in absurd none
one_machine None (o ∷ os) some a b p q = sym (p 0 a (omega arith)) ∙ q 0 a (omega arith)
one_machine (Some arch) (o ∷ os) some a b p q = sym (p 0 a (omega arith)) ∙ q 0 a (omega arith)

-- as many inputs as items, and one at least
pub some_objects : (inputs : List InputWords) (items : List (List ℕ)) → 0 < length inputs → length items ≡ length (map InputItem inputs) → 0 < length (objects_in inputs items)
some_objects [] items some count = let none : ⊥ = omega (arith, some) in absurd none
some_objects (s ∷ ss) [] some count = let none : ⊥ = omega (arith, count) in absurd none
some_objects (s ∷ ss) (i ∷ is) some count = omega arith

one_linked : (before : Option Arch) (objects : List Object) (at : ℕ) (s t : List ℕ) (j k : ℕ) (m n : List Omitted) → 0 < length objects → AreBytes s → AreBytes t → (p : IsLinked before objects at s j m) → (q : IsLinked before objects at t k n)
    → (p.functions ≡ q.functions) × (s ≡ t) × (j ≡ k) × (m ≡ n)
one_linked before objects at s t j k m n some x y p q =
    let both : Ok p.functions ≡ Ok q.functions = sym (described (first_item before) objects (Ok p.functions) p.are) ∙ described (first_item before) objects (Ok q.functions) q.are in
    let functions : p.functions ≡ q.functions = cc in
    let ordered : p.ordered ≡ q.ordered = one_order (map read_of q.functions) p.ordered q.ordered (subst (λ (fs : List Function). InOrder (map read_of fs) p.ordered) functions p.in_order) q.in_order in
    let arch = one_machine before objects some p.arch q.arch p.machine q.machine in
    let table : table_of p.arch (kept_of p.ordered) ≡ table_of q.arch (kept_of q.ordered) = ap (λ (a : Arch). table_of a (kept_of p.ordered)) arch ∙ ap (λ (es : List ReadFunction). table_of q.arch (kept_of es)) ordered in (
      functions,
      tight_one s t at (table_of q.arch (kept_of q.ordered)) x y (subst (Tight s at) table p.tight) q.tight (subst (Narrow s) table p.narrow) q.narrow,
      p.kept_is ∙ ap (λ (es : List ReadFunction). length (kept_of es)) ordered ∙ sym q.kept_is,
      p.omitted_are ∙ ap omitted_of ordered ∙ sym q.omitted_are,
    )

one_made : (before : Option Arch) (objects : List Object) (at : ℕ) (made : Makings) (c d : Coming) → 0 < length objects → MakesLinked before objects at made c → MakesLinked before objects at made d → c ≡ d
one_made before objects at made c d some p q =
    let same = one_linked before objects at p.section q.section p.kept q.kept p.omitted q.omitted some p.are_bytes q.are_bytes p.linked q.linked in
    p.is ∙ ap (λ (fs : List Function). made fs p.section p.kept p.omitted) same.0 ∙ ap (λ (s : List ℕ). made q.linked.functions s p.kept p.omitted) same.1
    ∙ ap (λ (k : ℕ). made q.linked.functions q.section k p.omitted) same.2 ∙ ap (made q.linked.functions q.section q.kept) same.3 ∙ sym q.is

one_from_links : (before : Option Arch) (objects : List Object) (at : ℕ) (made : Makings) (result : Result (List ReadFunction) LinkFault) (c d : Coming) → 0 < length objects → LinkedComesFrom before objects at made result c → LinkedComesFrom before objects at made result d → c ≡ d
one_from_links before objects at made (Err fault) c d some p q = p ∙ sym q
one_from_links before objects at made (Ok ordered) c d some p q = one_made before objects at made c d some p q

pub one_link : (before : Option Arch) (objects : List Object) (at : ℕ) (made : Makings) (c d : Coming) → 0 < length objects → LinkedComes before objects at made c → LinkedComes before objects at made d → c ≡ d
one_link before objects at made c d some p q =
    let result = one_result before objects at p.result q.result p.links q.links in
    one_from_links before objects at made q.result c d some (subst (λ (r : Result (List ReadFunction) LinkFault). LinkedComesFrom before objects at made r c) result p.comes) q.comes

-- ---- linkplt
one_plt_linked : (objects : List Object) (at : ℕ) (s t : List ℕ) (j k : ℕ) (m n : List Omitted) (u v : List Span) → 0 < length objects → AreBytes s → AreBytes t → IsPltLinked None objects at s j m u → IsPltLinked None objects at t k n v
    → (s ≡ t) × (j ≡ k) × (m ≡ n) × (u ≡ v)
one_plt_linked objects at s t j k m n u v some x y p q =
    let both : Ok p.functions ≡ Ok q.functions = sym (described 0 objects (Ok p.functions) p.are) ∙ described 0 objects (Ok q.functions) q.are in
    let functions : p.functions ≡ q.functions = cc in
    let sorted : p.sorted ≡ q.sorted = one_sorted q.functions p.sorted q.sorted (subst (λ (fs : List Function). AreByStart fs p.sorted) functions p.by_start) q.by_start in
    let arch = one_machine None objects some p.arch q.arch p.machine q.machine in
    let table : table_of p.arch (written_functions p.sorted) ≡ table_of q.arch (written_functions q.sorted) = ap (λ (a : Arch). table_of a (written_functions p.sorted)) arch ∙ ap (λ (fs : List Function). table_of q.arch (written_functions fs)) sorted in (
      tight_one s t at (table_of q.arch (written_functions q.sorted)) x y (subst (Tight s at) table p.tight) q.tight (subst (Narrow s) table p.narrow) q.narrow,
      p.kept_is ∙ ap (λ (fs : List Function). length (kept_functions fs)) sorted ∙ sym q.kept_is,
      p.omitted_are ∙ ap (λ (fs : List Function). omitted_of (map read_of (others_in (omitted_functions fs)))) sorted ∙ sym q.omitted_are,
      p.plts_are ∙ ap (λ (fs : List Function). map plt_span (plt_functions fs)) sorted ∙ sym q.plts_are,
    )

one_plt_made : (objects : List Object) (at : ℕ) (c d : Coming) → 0 < length objects → MakesPltLinked objects at c → MakesPltLinked objects at d → c ≡ d
one_plt_made objects at c d some p q =
    let same = one_plt_linked objects at p.section q.section p.kept q.kept p.omitted q.omitted p.plts q.plts some p.are_bytes q.are_bytes p.linked q.linked in
    p.is ∙ ap (λ (s : List ℕ). Makes Done (Some s) (plt_report_text p.kept p.omitted p.plts)) same.0 ∙ ap (λ (k : ℕ). Makes Done (Some q.section) (plt_report_text k p.omitted p.plts)) same.1
    ∙ ap (λ (m : List Omitted). Makes Done (Some q.section) (plt_report_text q.kept m p.plts)) same.2 ∙ ap (λ (u : List Span). Makes Done (Some q.section) (plt_report_text q.kept q.omitted u)) same.3 ∙ sym q.is

one_plt_from : (objects : List Object) (at : ℕ) (result : Result (List Function) LinkFault) (c d : Coming) → 0 < length objects → PltLinkedComes objects at result c → PltLinkedComes objects at result d → c ≡ d
one_plt_from objects at (Err fault) c d some p q = p ∙ sym q
one_plt_from objects at (Ok functions) c d some p q = one_plt_made objects at c d some p q

pub one_plt_link : (objects : List Object) (at : ℕ) (c d : Coming) → 0 < length objects → ObjectsCome objects at c → ObjectsCome objects at d → c ≡ d
one_plt_link objects at c d some p q =
    let result = one_plt_result None objects at p.result q.result p.links q.links in
    one_plt_from objects at q.result c d some (subst (λ (r : Result (List Function) LinkFault). PltLinkedComes objects at r c) result p.comes) q.comes

-- ---- backtrace
pub one_backtrace : (objects : List Object) (at : ℕ) (core : List ℕ) (depth : ℕ) (check : Result (Unit {0}) CoreFault) (c d : Coming) → 0 < length objects → BacktraceComesFrom objects at core depth check c → BacktraceComesFrom objects at core depth check d → c ≡ d
one_backtrace objects at core depth (Err fault) c d some p q = p ∙ sym q
one_backtrace objects at core depth (Ok u) c d some p q = one_link (Some (arch_of core)) objects at (section_and_walks core depth) c d some p q

-- ---- verify
pub one_verified : (at : ℕ) (bytes : List ℕ) (objects : List Object) (check : Result (Unit {0}) DecodeFault) (c d : Coming) → VerifyComesFrom at bytes objects check c → VerifyComesFrom at bytes objects check d → c ≡ d
one_verified at bytes objects (Err fault) c d p q = p ∙ sym q
one_verified at bytes objects (Ok u) c d p q =
    let tables = table_same bytes at p.table q.table p.of_bytes q.of_bytes in
    let result = one_verdict bytes q.table objects p.result q.result (subst (λ (t : Table). Verifies bytes t objects p.result) tables p.verifies) q.verifies in
    p.is ∙ ap coming_of_verdict result ∙ sym q.is
