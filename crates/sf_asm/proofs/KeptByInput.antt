-- Kept functions, a list for each input.
use Rattle.std.specs.List.{AllByRecursion}
use Rattle.std.proofs.Common.{◌≡◌, ℕ, zero, suc, ◌+◌, ◌<◌, ◌≤◌, Bool, true, false, cond, eqb, All, Vec, Global, List, [], ◌∷◌, ◌++◌, length, get_or, map, take, None, Result, refl, sym, ap, subst, ◌∙◌, arith}
use Rattle.std.proofs.Math.ListN.{set}
use Rattle.std.proofs.lemmas.Bool.{eqb-true, eqb-false}
use Rattle.std.proofs.lemmas.Bool.Decides.{nat_tests}
use Rattle.std.proofs.lemmas.List.{take_more, append-nil, get_or-set_same, get_or-set_other, length-set}
use Rattle.std.proofs.lemmas.List.Elements.{All-from_recursion, filter-append}
use Rattle.sf_model.specs.declared.machine.Arch.{Arch}
use Rattle.sf_model.specs.declared.function.Func.{Func}
use Rattle.sf_model.specs.declared.omission.Omission.{Omission}
use Rattle.sf_model.specs.declared.omission.Reason.TheVariants.{EmptyRange}
use Rattle.sf_model.specs.declared.omission.Span.{Span}
use Rattle.sf_asm.specs.declared.list_forms.Gathered.{Gathered}
use Rattle.sf_model.specs.Function.{AreWritable}
use Rattle.frame_functions.specs.declared.read_function.ReadFunction.{ReadFunction}
use Rattle.frame_functions.specs.declared.read_function.Expressed.{Expressed}
use Rattle.frame_functions.specs.declared.read_function.Expressed.TheVariants.{Kept, LeftOut}
use Rattle.frame_functions.specs.Kept.{outcome_by}
use Rattle.frame_functions.specs.ReadFunction.{kept_by_item, kept_of, of_item, omitted_of, spans_of}
use Rattle.sf_asm.proofs.Kept.{kept_of-kept, kept_of-left}

abbrev pub is_of : (item : ℕ) → ReadFunction → Bool
is_of item e = eqb e.span.origin.item item

of_one : (item : ℕ) (e : ReadFunction) (b : Bool) → is_of item e ≡ b → of_item item (e ∷ []) ≡ cond b (e ∷ []) []
of_one item e b t = ap (λ (x : Bool). cond x (e ∷ []) []) t

equal_test : (m n : ℕ) → m ≡ n → eqb m n ≡ true
equal_test m n e = grind (arith, nat_tests)

other_test : (m n : ℕ) → (m ≡ n → ⊥) → eqb m n ≡ false
other_test m n h = at_test (eqb m n) refl
  where
    at_test : (b : Bool) → eqb m n ≡ b → b ≡ false
    at_test false t = refl
    at_test true t = absurd (h (eqb-true m n t))

of_item-more : (item : ℕ) (es : List ReadFunction) (e : ReadFunction) → e.span.origin.item ≡ item → of_item item (es ++ e ∷ []) ≡ of_item item es ++ e ∷ []
of_item-more item es e is =
    filter-append (is_of item) es (e ∷ []) ∙ ap (λ (xs : List ReadFunction). of_item item es ++ xs) (of_one item e true (equal_test e.span.origin.item item is))

of_item-other : (item : ℕ) (es : List ReadFunction) (e : ReadFunction) → (e.span.origin.item ≡ item → ⊥) → of_item item (es ++ e ∷ []) ≡ of_item item es
of_item-other item es e is_not =
    filter-append (is_of item) es (e ∷ []) ∙ ap (λ (xs : List ReadFunction). of_item item es ++ xs) (of_one item e false (other_test e.span.origin.item item is_not)) ∙ append-nil (of_item item es)

kept_here : (item : ℕ) (es : List ReadFunction) (e : ReadFunction) (f : Func) → e.span.origin.item ≡ item → e.outcome ≡ Kept f → kept_of (of_item item (es ++ e ∷ [])) ≡ kept_of (of_item item es) ++ f ∷ []
kept_here item es e f is kept = ap kept_of (of_item-more item es e is) ∙ kept_of-kept (of_item item es) e f kept

kept_elsewhere : (item : ℕ) (es : List ReadFunction) (e : ReadFunction) → (e.span.origin.item ≡ item → ⊥) → kept_of (of_item item (es ++ e ∷ [])) ≡ kept_of (of_item item es)
kept_elsewhere item es e is_not = ap kept_of (of_item-other item es e is_not)

left_out : (item : ℕ) (es : List ReadFunction) (e : ReadFunction) (o : Omission) → e.outcome ≡ LeftOut o → kept_of (of_item item (es ++ e ∷ [])) ≡ kept_of (of_item item es)
left_out item es e o left = at_test (is_of item e) refl
  where
    at_test : (b : Bool) → is_of item e ≡ b → kept_of (of_item item (es ++ e ∷ [])) ≡ kept_of (of_item item es)
    at_test true t = ap kept_of (of_item-more item es e (eqb-true e.span.origin.item item t)) ∙ kept_of-left (of_item item es) e o left
    at_test false t = kept_elsewhere item es e (λ is. (let same = equal_test e.span.origin.item item is in let no : true ≡ false = sym same ∙ t in cc))

-- ---- one function after the other
-- the next of a list of functions, by its addresses and what becomes of it
next_is : (g e : ReadFunction) (given : Result Func Omission) → e.span ≡ g.span → g.outcome ≡ outcome_by given → outcome_by given ≡ e.outcome → g ≡ e
next_is g e given span outcome is =
    ap (λ (s : Span). record { span = s; outcome = g.outcome }) (sym span) ∙ ap (λ (o : Expressed). record { span = e.span; outcome = o }) (outcome ∙ is)

pub one_more : (es : List ReadFunction) (i : ℕ) (e : ReadFunction) (given : Result Func Omission) → i < length es → e.span ≡ (get_or es i e).span → (get_or es i e).outcome ≡ outcome_by given → outcome_by given ≡ e.outcome → (get_or es i e ≡ e) × (take (i + 1) es ≡ take i es ++ e ∷ [])
one_more es i e given low span outcome is =
    let next : get_or es i e ≡ e = next_is (get_or es i e) e given span outcome is in
    (next, take_more es i e low ∙ ap (λ (x : ReadFunction). take i es ++ x ∷ []) next)

-- its item is one of these
pub span_within : (first end : ℕ) (es : List ReadFunction) (i : ℕ) (span : Span) → i < length es → All (λ (x : ReadFunction). (first ≤ x.span.origin.item) × (x.span.origin.item < end)) es → ((d : ReadFunction) → span ≡ (get_or es i d).span) → (first ≤ span.origin.item) × (span.origin.item < end)
span_within first end es i span low all is =
    let d : ReadFunction = record { span = span; outcome = LeftOut record { reason = EmptyRange; offset = None } } in
    subst (λ (s : Span). (first ≤ s.origin.item) × (s.origin.item < end)) (sym (is d)) (all i d low)

-- each list has the kept functions of its input
abbrev pub AreHandedOut : (first : ℕ) → List (Vec Func Global) → List ReadFunction → Type 0
AreHandedOut first lists es = (k : ℕ) (d : Vec Func Global) → k < length lists → (get_or lists k d).items ≡ kept_of (of_item (first + k) es)

pub none_yet : (first : ℕ) (lists : List (Vec Func Global)) → All (λ (list : Vec Func Global). list.items ≡ []) lists → AreHandedOut first lists []
none_yet first lists h = λ k d lt. h k d lt

pub one_left : (first : ℕ) (lists : List (Vec Func Global)) (es : List ReadFunction) (e : ReadFunction) (o : Omission) → AreHandedOut first lists es → e.outcome ≡ LeftOut o → AreHandedOut first lists (es ++ e ∷ [])
one_left first lists es e o h left = λ k d lt. h k d lt ∙ sym (left_out (first + k) es e o left)

pub one_kept : (first : ℕ) (lists : List (Vec Func Global)) (es : List ReadFunction) (e : ReadFunction) (f : Func) (i : ℕ) (old new : Vec Func Global) → AreHandedOut first lists es → e.outcome ≡ Kept f → e.span.origin.item ≡ first + i → i < length lists
    → old ≡ get_or lists i old → new.items ≡ old.items ++ f ∷ [] → AreHandedOut first (set lists i new) (es ++ e ∷ [])
one_kept first lists es e f i old new h kept is within at push = λ k d lt. at_place k d (omega (arith, lt, length-set {A = Vec Func Global})) (eqb k i) refl
  where
    at_place : (k : ℕ) (d : Vec Func Global) → k < length lists → (b : Bool) → eqb k i ≡ b → (get_or (set lists i new) k d).items ≡ kept_of (of_item (first + k) (es ++ e ∷ []))
    at_place k d lt true t =
        let same : k ≡ i = eqb-true k i t in
        subst (λ (j : ℕ). (get_or (set lists i new) j d).items ≡ kept_of (of_item (first + j) (es ++ e ∷ []))) (sym same)
        (ap (λ (v : Vec Func Global). v.items) (get_or-set_same lists i new d within) ∙ push
        ∙ ap (λ (xs : List Func). xs ++ f ∷ []) (ap (λ (v : Vec Func Global). v.items) at ∙ h i old within) ∙ sym (kept_here (first + i) es e f is kept))
    at_place k d lt false t =
        let other : k ≡ i → ⊥ = eqb-false k i t in
        ap (λ (v : Vec Func Global). v.items) (get_or-set_other lists i k new d other) ∙ h k d lt
        ∙ sym (kept_elsewhere (first + k) es e (λ same. other (omega (arith, same, is))))

-- all of them
pub all_handed_out : (first : ℕ) (lists : List (Vec Func Global)) (es : List ReadFunction) → AreHandedOut first lists es → map (λ (list : Vec Func Global). list.items) lists ≡ kept_by_item first (length lists) es
all_handed_out first [] es h = refl
all_handed_out first (list ∷ lists) es h =
    ap (λ (fs : List Func). fs ∷ map (λ (list : Vec Func Global). list.items) lists) (subst (λ (n : ℕ). list.items ≡ kept_of (of_item n es)) (omega arith) (h 0 list (omega arith)))
    ∙ ap (λ (fss : List (List Func)). kept_of (of_item first es) ∷ fss)
    (all_handed_out (first + 1) lists es (λ k d lt. subst (λ (n : ℕ). (get_or lists k d).items ≡ kept_of (of_item n es)) (omega arith) (h (suc k) d (omega (arith, lt)))))

-- ---- what each list is
each_of : (arch : Arch) (first count : ℕ) (lists : List (Vec Func Global)) (es : List ReadFunction) → map (λ (list : Vec Func Global). list.items) lists ≡ kept_by_item first count es → ((item : ℕ) → AreWritable arch (kept_of (of_item item es)))
    → AllByRecursion (λ (list : Vec Func Global). AreWritable arch list.items) lists
each_of arch first count [] es e h = tt
each_of arch first zero (list ∷ lists) es e h = cc
each_of arch first (suc count) (list ∷ lists) es e h =
    let here : list.items ≡ kept_of (of_item first es) = cc in
    let there : map (λ (list : Vec Func Global). list.items) lists ≡ kept_by_item (first + 1) count es = cc in
    (subst (AreWritable arch) (sym here) (h first), each_of arch (first + 1) count lists es there h)

pub each_writable : (arch : Arch) (first count : ℕ) (lists : List (Vec Func Global)) (es : List ReadFunction) → map (λ (list : Vec Func Global). list.items) lists ≡ kept_by_item first count es → ((item : ℕ) → AreWritable arch (kept_of (of_item item es)))
    → All (λ (list : Vec Func Global). AreWritable arch list.items) lists
each_writable arch first count lists es e h = All-from_recursion (λ (list : Vec Func Global). AreWritable arch list.items) lists (each_of arch first count lists es e h)

-- ---- what was sorted out of these functions
pub record AreSortedOut (arch : Arch) (first count : ℕ) (gathered : Gathered) (es : List ReadFunction) : Type 0 where
  pub arch_is : gathered.arch ≡ arch
  pub many : length gathered.kept.items ≡ count
  pub kept : AreHandedOut first gathered.kept.items es
  pub omitted : gathered.omitted.items ≡ omitted_of es
  pub spans : gathered.spans.items ≡ spans_of es
