-- What verifying comes to, by what the code found.
use Rattle.std.specs.Prelude.{◌&&◌, ◌==◌}
use Rattle.std.specs.List.{AllAdjacentBelow, filter, list_any}
use Rattle.std.specs.List.Sorted.{IsPermutation}
use Rattle.std.proofs.Common.{◌≡◌, ℕ, zero, suc, ◌+◌, ◌-◌, ◌<◌, ◌≤◌, true, List, get_or, length, map, Option, Some, None, Ok, Err, refl, sym, ap, subst, ◌∙◌, arith, inl, inr}
use Rattle.std.proofs.lemmas.Bool.{and_parts, eqb-true}
use Rattle.std.proofs.lemmas.List.Elements.{All-head}
use Rattle.sf_model.specs.declared.function.Func.{Func}
use Rattle.sf_model.specs.declared.machine.Arch.{Arch}
use Rattle.sf_model.specs.declared.omission.Omitted.{Omitted}
use Rattle.sf_model.specs.declared.verdict.Verdict.{Verdict}
use Rattle.sf_model.specs.declared.verdict.Verdict.TheVariants.{Agrees, Differs}
use Rattle.sf_model.specs.Function.{AreWritable}
use Rattle.sf_decode.specs.declared.view.View.{View}
use Rattle.sf_decode.specs.View.{section_bytes, table_of}
use Rattle.sf_functions.specs.Order.{IsInOrder}
use Rattle.sf_merge.specs.declared.located.Located.{Located}
use Rattle.sf_merge.specs.Located.{located_functions, located_start}
use Rattle.sf_merge.specs.Views.{IsViewOfSection}
use Rattle.sf_asm.specs.declared.fault.GatherFault.{GatherFault}
use Rattle.sf_asm.specs.declared.fault.GatherFault.TheVariants as gather
use Rattle.sf_asm.specs.Answers.{IsFirstGathered}
use Rattle.frame_functions.specs.Functions.{Function}
use Rattle.sf_asm.specs.Functions.{Object, machine_of}
use Rattle.sf_asm.specs.Inputs.{HaveMachine}
use Rattle.frame_functions.specs.Kept.{read_of, is_kept}
use Rattle.sf_asm.specs.Descriptions.{AreWithDescriptions}
use Rattle.sf_asm.proofs.Described.{described}
use Rattle.sf_asm.proofs.OneHolder.{gathered_apart, kept_size}
use Rattle.sf_asm.proofs.OneMachine.{machine_of_functions}
use Rattle.sf_verify.specs.declared.fault.VerifyFault.{VerifyFault}
use Rattle.sf_verify.specs.declared.fault.VerifyFault.TheVariants as verify
use Rattle.sf_verify.specs.Agreement.{Agree, DifferFirst, IsVerdict, without_key, is_plain, represents}
use Rattle.sf_verify.specs.Asking.{AreHolders, answers_of}
use Rattle.sf_verify.specs.Comparing.{AreComparable}
use Rattle.sf_verify.specs.Concluding.{IsVerdictBy}
use Rattle.sf_verify.specs.Counting.{KeptRise, StartsRise, represents_kept, is_absent}
use Rattle.frame_functions.specs.ContentAt.{Answers, dwarf_at}
use Rattle.sf_verify.specs.SectionContent.{section_at}
use Rattle.sf_verify.specs.Verifying.{IsFirstVerifyFault, Verifies, VerdictUnless, refused, section_fault, sized_in}
use Rattle.sf_verify.proofs.Counted.{missing_are}
use Rattle.sf_verify.proofs.Gathered.{expressed_of, holders, holders_of_both, kept_are, same_answers}
use Rattle.sf_verify.proofs.Sections.{any_sized, comparable, section_content, starts_rise}

-- ---- the same at each address
agree_alike : (s t d e : Option _) → s ≡ t → d ≡ e → Agree s d → Agree t e
agree_alike s t d e p q h = subst (λ x. Agree x e) p (subst (λ y. Agree s y) q h)

first_alike : (section other dwarf real : Answers) (pc : ℕ) (ours : _) (theirs : _) → ((pc : ℕ) → section pc ≡ other pc) → ((pc : ℕ) → dwarf pc ≡ real pc) → DifferFirst section dwarf pc ours theirs → DifferFirst other real pc ours theirs
first_alike section other dwarf real pc ours theirs p q h = record {
  section_content = ap without_key (sym (p pc)) ∙ h.section_content;
  dwarf_content = ap without_key (sym (q pc)) ∙ h.dwarf_content;
  differ = λ agree. h.differ (agree_alike (other pc) (section pc) (real pc) (dwarf pc) (sym (p pc)) (sym (q pc)) agree);
  before = λ least lt. agree_alike (section least) (other least) (dwarf least) (real least) (p least) (q least) (h.before least lt);
}

verdict_is : (section ordered kept : List Func) (functions sorted : List Function) (answers : Answers) (verdict : Verdict) → ((pc : ℕ) → section_at ordered pc ≡ section_at section pc) → ((pc : ℕ) → answers pc ≡ dwarf_at functions pc)
    → kept ≡ map expressed_of (filter is_kept sorted) → IsPermutation functions sorted → ((f : Function) → is_kept f ≡ true → list_any (represents_kept (expressed_of f)) ordered ≡ list_any (represents f) section)
    → IsVerdictBy section ordered kept answers verdict → IsVerdict section functions verdict
verdict_is section ordered kept functions sorted answers (Agrees checked missing repeats) p q kept_is moved same h = record {
  agree = λ pc. agree_alike (section_at ordered pc) (section_at section pc) (answers pc) (dwarf_at functions pc) (p pc) (q pc) (h.agree pc);
  checked_are = h.checked_are;
  missing_are = h.missing_are ∙ ap (λ (ks : List Func). length (filter (is_absent ordered) ks)) kept_is ∙ missing_are section ordered functions sorted moved same;
  repeats_are = h.repeats_are;
}
verdict_is section ordered kept functions sorted answers (Differs pc ours theirs) p q kept_is moved same h = first_alike (section_at ordered) (section_at section) answers (dwarf_at functions) pc ours theirs p q h

-- ---- kept functions rise
later_pairs : (fs : List Func) → AllAdjacentBelow (λ (f : Func) (g : Func). f.start + f.size ≤ g.start) fs (length fs) → (i k : ℕ) (d : Func) → i + k + 1 < length fs → (get_or fs i d).start + (get_or fs i d).size ≤ (get_or fs (i + k + 1) d).start
later_pairs fs h i zero d lt = let same : i + 0 + 1 ≡ i + 1 = omega arith in subst (λ (n : ℕ). (get_or fs i d).start + (get_or fs i d).size ≤ (get_or fs n d).start) (sym same) (h i d (omega (arith, lt)))
later_pairs fs h i (suc k) d lt =
    let before = later_pairs fs h i k d (omega (arith, lt)) in
    let next = h (i + k + 1) d (omega (arith, lt)) in
    let same : i + suc k + 1 ≡ i + k + 1 + 1 = omega arith in
    subst (λ (n : ℕ). (get_or fs i d).start + (get_or fs i d).size ≤ (get_or fs n d).start) (sym same) (omega (arith, before, next))

pub kept_rise : (arch : Arch) (kept : List Func) → AreWritable arch kept → KeptRise kept
kept_rise arch kept h i j d lt within =
    go (j - (i + 1)) (omega (arith, lt))
  where
    go : (k : ℕ) → j ≡ i + k + 1 → (get_or kept i d).start < (get_or kept j d).start
    go k e =
        let ends = later_pairs kept h.apart i k d (subst (λ (n : ℕ). n < length kept) e within) in
        let some = (h.each i d (omega (arith, lt, within))).size in
        subst (λ (n : ℕ). (get_or kept i d).start < (get_or kept n d).start) (sym e) (omega (arith, ends, some))

-- ---- gathered functions
pub have_holders : (before : Arch) (objects : List Object) (arch : Arch) (kept : List Func) (omitted : List Omitted) (descriptions : List Function) (h : AreWithDescriptions (Some before) objects arch kept omitted descriptions) → HaveMachine (Some before) objects arch
    → AreHolders arch (dwarf_at h.functions) kept descriptions
have_holders before objects arch kept omitted descriptions h machine =
    let apart = gathered_apart (Some before) objects (map read_of h.sorted) h.is in
    let machines = machine_of_functions (Some before) objects arch h.functions (described 1 objects (Ok h.functions) h.are) machine in
    holders arch h.functions h.sorted kept descriptions h.by_start.moved apart h.kept_are h.descriptions_are h.by_start.rising h.writable.each machines

-- ---- the results
pub same_machine : (before arch : Arch) (objects : List Object) → HaveMachine (Some before) objects arch → before ≡ arch
same_machine before arch objects machine = All-head (λ (m : Arch). m ≡ arch) before (map machine_of objects) machine

-- a function that is covered holds an address
covered_size : (f : Function) (g : Func) → is_kept f ≡ true → 0 < f.size → represents_kept (expressed_of f) g ≡ true → 0 < g.size
covered_size f g kept some e =
    let two = and_parts (is_plain g && (g.start == f.start)) (g.size == f.size) e in
    let same = eqb-true g.size f.size two.1 in
    omega (arith, same, some)

pub is_verified : (view : View) (objects : List Object) (arch : Arch) (kept : List Func) (omitted : List Omitted) (descriptions : List Function) (ordered : List Located) (verdict : Verdict)
    → (h : AreWithDescriptions (Some (table_of view).arch) objects arch kept omitted descriptions) → HaveMachine (Some (table_of view).arch) objects arch → IsInOrder located_start (sized_in (table_of view)) ordered → section_fault (section_bytes view) ordered ≡ None
    → IsVerdictBy (table_of view).functions (located_functions ordered) kept (answers_of kept descriptions) verdict → Verifies (section_bytes view) (table_of view) objects (Ok verdict)
is_verified view objects arch kept omitted descriptions ordered verdict h machine order none is =
    let table = table_of view in
    let hold = have_holders table.arch objects arch kept omitted descriptions h machine in
    let verdict' = verdict_is table.functions (located_functions ordered) kept h.functions h.sorted (answers_of kept descriptions) verdict
    (section_content (section_bytes view) table ordered order none) (same_answers arch (dwarf_at h.functions) kept descriptions hold) (h.kept_are ∙ kept_are h.sorted) h.by_start.moved
    (λ f k. any_sized (represents_kept (expressed_of f)) table ordered order (λ g e. covered_size f g k (kept_size f k) e)) is in
    (Ok (map read_of h.sorted), h.is, ordered, order, subst (λ (fault : Option VerifyFault). VerdictUnless fault table objects (Ok verdict)) (sym none) (h.functions, h.are, verdict, verdict', refl))

pub is_refused : (view : View) (objects : List Object) (ordered : List Located) (fault : GatherFault) → IsInOrder located_start (sized_in (table_of view)) ordered → IsFirstGathered (Some (table_of view).arch) objects fault
    → IsFirstVerifyFault (section_bytes view) (table_of view) objects (refused (section_fault (section_bytes view) ordered) fault)
is_refused view objects ordered fault order (inl none) = inl (subst (λ (f : GatherFault). refused (section_fault (section_bytes view) ordered) f ≡ verify.NoMemory) (sym none) (no_memory (section_fault (section_bytes view) ordered)))
  where
    no_memory : (section : Option VerifyFault) → refused section gather.NoMemory ≡ verify.NoMemory
    no_memory None = refl
    no_memory (Some fault) = refl
is_refused view objects ordered fault order (inr is) = inr (Err fault, is, ordered, order, refl)

pub is_shared : (view : View) (objects : List Object) (arch : Arch) (kept : List Func) (omitted : List Omitted) (descriptions : List Function) (ordered : List Located) (fault : VerifyFault) → AreWithDescriptions (Some (table_of view).arch) objects arch kept omitted descriptions → IsInOrder located_start (sized_in (table_of view)) ordered
    → section_fault (section_bytes view) ordered ≡ Some fault → IsFirstVerifyFault (section_bytes view) (table_of view) objects fault
is_shared view objects arch kept omitted descriptions ordered fault h order is =
    inr (Ok (map read_of h.sorted), h.is, ordered, order, subst (λ (f : Option VerifyFault). VerdictUnless f (table_of view) objects (Err fault)) (sym is) refl)

-- ---- what the comparison asks for
pub record ArePrepared (view : View) (arch : Arch) (kept : List Func) (descriptions : List Function) (ordered : List Located) : Type 0 where
  pub machine : arch ≡ (table_of view).arch
  pub order : IsInOrder located_start (sized_in (table_of view)) ordered
  pub none : section_fault (section_bytes view) ordered ≡ None
  pub comparable : AreComparable arch ordered
  pub rise : StartsRise ordered
  pub holders : AreHolders arch (answers_of kept descriptions) kept descriptions
  pub kept_rises : KeptRise kept

pub prepared : (view : View) (objects : List Object) (before arch : Arch) (kept : List Func) (omitted : List Omitted) (descriptions : List Function) (ordered asked : List Located) (shared : Option VerifyFault) → before ≡ (table_of view).arch
    → AreWithDescriptions (Some before) objects arch kept omitted descriptions → HaveMachine (Some before) objects arch → IsViewOfSection view → IsInOrder located_start (sized_in (table_of view)) ordered
    → asked ≡ ordered → shared ≡ section_fault (section_bytes view) asked → shared ≡ None → ArePrepared view arch kept descriptions ordered
prepared view objects before arch kept omitted descriptions ordered asked shared before_is h machine read order asked_is shared_is none =
    let no_fault : section_fault (section_bytes view) ordered ≡ None = subst (λ (ls : List Located). section_fault (section_bytes view) ls ≡ None) asked_is (sym shared_is ∙ none) in
    let arch_is : arch ≡ (table_of view).arch = sym (same_machine before arch objects machine) ∙ before_is in
    record {
      machine = arch_is;
      order = order;
      none = no_fault;
      comparable = subst (λ (a : Arch). AreComparable a ordered) (sym arch_is) (comparable view ordered read order no_fault);
      rise = starts_rise (section_bytes view) (table_of view) ordered order no_fault;
      holders = holders_of_both arch (dwarf_at h.functions) kept descriptions (have_holders before objects arch kept omitted descriptions h machine);
      kept_rises = kept_rise arch kept h.writable;
    }

pub has_verdict : (view : View) (objects : List Object) (before arch : Arch) (kept : List Func) (omitted : List Omitted) (descriptions : List Function) (ordered asked : List Located) (verdict : Verdict) → before ≡ (table_of view).arch
    → AreWithDescriptions (Some before) objects arch kept omitted descriptions → HaveMachine (Some before) objects arch → ArePrepared view arch kept descriptions ordered → asked ≡ ordered
    → IsVerdictBy (table_of view).functions (located_functions asked) kept (answers_of kept descriptions) verdict → Verifies (section_bytes view) (table_of view) objects (Ok verdict)
has_verdict view objects before arch kept omitted descriptions ordered asked verdict before_is h machine p asked_is is =
    is_verified view objects arch kept omitted descriptions ordered verdict
    (subst (λ (a : Arch). AreWithDescriptions (Some a) objects arch kept omitted descriptions) before_is h) (subst (λ (a : Arch). HaveMachine (Some a) objects arch) before_is machine) p.order p.none
    (subst (λ (ls : List Located). IsVerdictBy (table_of view).functions (located_functions ls) kept (answers_of kept descriptions) verdict) asked_is is)
