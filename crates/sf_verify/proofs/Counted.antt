-- How many kept functions a section lacks.
use Rattle.std.specs.Prelude.{not, ◌&&◌, ◌||◌}
use Rattle.std.specs.List.{filter, list_any}
use Rattle.std.specs.List.Sorted.{IsPermutation}
use Rattle.std.proofs.Common.{◌≡◌, ℕ, zero, suc, ◌-◌, ◌<◌, ◌≤◌, ◌==◌, Bool, true, false, cond, List, [], ◌∷◌, get_or, length, map, take, refl, sym, ap, subst, ◌∙◌, arith, inl, inr}
use Rattle.std.proofs.lemmas.Bool.{and_parts, cases_lt, eqb-true}
use Rattle.std.proofs.lemmas.List.{get_or_default}
use Rattle.std.proofs.lemmas.List.Filters.{length-filter_both}
use Rattle.std.proofs.lemmas.List.Sorted.{length_permutation}
use Rattle.sf_model.specs.declared.function.Func.{Func}
use Rattle.sf_merge.specs.declared.located.Located.{Located}
use Rattle.sf_merge.proofs.Permutations.{filter_permuted}
use Rattle.frame_functions.specs.Functions.{Function}
use Rattle.frame_functions.specs.Kept.{is_kept, kept_functions}
use Rattle.sf_verify.specs.Agreement.{is_missing, is_plain, represents}
use Rattle.sf_merge.specs.Located.{located_functions}
use Rattle.sf_verify.specs.Counting.{StartBefore, StartsRise, represents_kept, is_absent}
use Rattle.sf_verify.proofs.Gathered.{expressed_of}

-- ---- one kept function, among functions by rising start
covered_start : (kept g : Func) → represents_kept kept g ≡ true → g.start ≡ kept.start
covered_start kept g e =
    let two = and_parts (is_plain g && (g.start == kept.start)) (g.size == kept.size) e in
    let one = and_parts (is_plain g) (g.start == kept.start) two.0 in
    eqb-true g.start kept.start one.1

other_start : (kept g : Func) (b : Bool) → represents_kept kept g ≡ b → (g.start ≡ kept.start → ⊥) → b ≡ false
other_start kept g true e never = absurd (never (covered_start kept g e))
other_start kept g false e never = refl

none_covers : (kept : Func) (functions : List Located) → ((i : ℕ) (d : Located) → i < length functions → represents_kept kept (get_or functions i d).func ≡ false) → list_any (represents_kept kept) (located_functions functions) ≡ false
none_covers kept [] h = refl
none_covers kept (l ∷ functions) h = rw (h 0 l (omega arith)) (none_covers kept functions (λ i d lt. h (suc i) d (omega (arith, lt))))

one_covers : (kept : Func) (functions : List Located) (place : ℕ) (d : Located) → place < length functions → represents_kept kept (get_or functions place d).func ≡ true → list_any (represents_kept kept) (located_functions functions) ≡ true
one_covers kept [] place d lt e = absurd (omega (arith, lt))
one_covers kept (l ∷ functions) zero d lt e = rw e refl
one_covers kept (l ∷ functions) (suc place) d lt e =
    ap (λ (b : Bool). represents_kept kept l.func || b) (one_covers kept functions place d (omega (arith, lt)) e) ∙ or_true (represents_kept kept l.func)
  where
    or_true : (b : Bool) → (b || true) ≡ true
    or_true true = refl
    or_true false = refl

pub there_is : (kept : Func) (functions : List Located) (place : ℕ) (d : Located) (b : Bool) → StartsRise functions → StartBefore functions place kept.start → (place < length functions → kept.start ≤ (get_or functions place d).func.start)
    → (b ≡ true → place < length functions) → (place < length functions → b ≡ represents_kept kept (get_or functions place d).func) → list_any (represents_kept kept) (located_functions functions) ≡ b
there_is kept functions place d true rise before after within is = let lt = within refl in one_covers kept functions place d lt (sym (is lt))
there_is kept functions place d false rise before after within is = none_covers kept functions
    (λ i e lt. elim (cases_lt i place) [
      | inl less ↦ let start = before i e less lt in other_start kept (get_or functions i e).func (represents_kept kept (get_or functions i e).func) refl (λ same. omega (arith, start, same))
      | inr not_less ↦ elim (cases_lt place i) [
        | inl more ↦
            let here : place < length functions = omega (arith, more, lt) in
            let up = rise place i e more lt in
            let first = subst (λ (l : Located). kept.start ≤ l.func.start) (get_or_default functions place d e here) (after here) in
            other_start kept (get_or functions i e).func (represents_kept kept (get_or functions i e).func) refl (λ same. omega (arith, up, first, same))
        | inr not_more ↦
            let same : i ≡ place = omega (arith, not_less, not_more) in
            let here : place < length functions = subst (λ (k : ℕ). k < length functions) same lt in
            ap (λ (l : Located). represents_kept kept l.func) (ap (λ (k : ℕ). get_or functions k e) same ∙ get_or_default functions place e d here) ∙ sym (is here)
      ]
    ])

-- ---- counts
abbrev pub one_if : Bool → ℕ
one_if b = cond b 1 0

pub at_most : {X : Type 0} (p : X → Bool) (xs : List X) → length (filter p xs) ≤ length xs
at_most p xs = let both = length-filter_both p (λ x. not (p x)) (λ x. refl) xs in omega (arith, both)

pub taken_most : {X : Type 0} (p : X → Bool) (xs : List X) (n : ℕ) → length (filter p (take n xs)) ≤ n
taken_most p [] zero = omega arith
taken_most p [] (suc n) = omega arith
taken_most p (x ∷ xs) zero = omega arith
taken_most p (x ∷ xs) (suc n) = at_test (p x) (taken_most p xs n)
  where
    at_test : (b : Bool) → length (filter p (take n xs)) ≤ n → length (cond b (x ∷ filter p (take n xs)) (filter p (take n xs))) ≤ suc n
    at_test true h = omega (arith, h)
    at_test false h = omega (arith, h)

pub rest_are : {X : Type 0} (p : X → Bool) (xs : List X) (count all : ℕ) → count ≡ length (filter p xs) → all ≡ length xs → all - count ≡ length (filter (λ x. not (p x)) xs)
rest_are p xs count all is of = let both = length-filter_both p (λ x. not (p x)) (λ x. refl) xs in omega (arith, both, is, of)

-- ---- all kept functions
pub later_before : (functions : List Located) (place start more : ℕ) → StartBefore functions place start → start ≤ more → StartBefore functions place more
later_before functions place start more h le i d less lt = let s = h i d less lt in omega (arith, s, le)

-- what is missing by the definition
missing_one : (section : List Func) (ordered : List Func) → ((f : Function) → is_kept f ≡ true → list_any (represents_kept (expressed_of f)) ordered ≡ list_any (represents f) section)
    → (fs : List Function) → length (filter (is_absent ordered) (map expressed_of (filter is_kept fs))) ≡ length (filter (is_missing section) (filter is_kept fs))
missing_one section ordered same [] = refl
missing_one section ordered same (f ∷ fs) = at_kept (is_kept f) refl (missing_one section ordered same fs)
  where
    at_any : (a b : Bool) → a ≡ b → (xs : List Func) (ys : List Function) → length xs ≡ length ys → length (cond (not a) (expressed_of f ∷ xs) xs) ≡ length (cond (not b) (f ∷ ys) ys)
    at_any true true e xs ys h = h
    at_any false false e xs ys h = ap suc h
    at_any true false e xs ys h = cc
    at_any false true e xs ys h = cc

    at_kept : (b : Bool) → is_kept f ≡ b → length (filter (is_absent ordered) (map expressed_of (filter is_kept fs))) ≡ length (filter (is_missing section) (filter is_kept fs))
        → length (filter (is_absent ordered) (map expressed_of (cond b (f ∷ filter is_kept fs) (filter is_kept fs)))) ≡ length (filter (is_missing section) (cond b (f ∷ filter is_kept fs) (filter is_kept fs)))
    at_kept true e others = at_any (list_any (represents_kept (expressed_of f)) ordered) (list_any (represents f) section) (same f e) (filter (is_absent ordered) (map expressed_of (filter is_kept fs))) (filter (is_missing section) (filter is_kept fs)) others
    at_kept false e others = others

pub missing_are : (section ordered : List Func) (functions sorted : List Function) → IsPermutation functions sorted → ((f : Function) → is_kept f ≡ true → list_any (represents_kept (expressed_of f)) ordered ≡ list_any (represents f) section)
    → length (filter (is_absent ordered) (map expressed_of (filter is_kept sorted))) ≡ length (filter (is_missing section) (kept_functions functions))
missing_are section ordered functions sorted moved same =
    missing_one section ordered same sorted
    ∙ length_permutation (filter (is_missing section) (kept_functions functions)) (filter (is_missing section) (kept_functions sorted)) (filter_permuted (is_missing section) (kept_functions functions) (kept_functions sorted) (filter_permuted is_kept functions sorted moved))
