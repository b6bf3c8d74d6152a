-- Items that are read one after the other: the first fault of all, and what was made of those before it.
use Rattle.std.specs.List.{AllZip}
use Rattle.std.proofs.Common.{◌≡◌, ◌+◌, ℕ, List, [], ◌∷◌, ◌++◌, map, Option, None, Result, Ok, Err, refl, ap, sym, subst, ◌∙◌}
use Rattle.std.proofs.lemmas.List.{append-nil}
use Rattle.section_commands.specs.FirstFault.{first_failing, or_in}

pub fault_step : {A F : Type 0} (check : A → Result (Unit {0}) F) (k : ℕ) (item : A) (later : List A) (found : Result (Unit {0}) F) → check item ≡ found → first_failing check k (item ∷ later) ≡ or_in found k (first_failing check (k + 1) later)
unfolding first_failing
fault_step {A} {F} check k item later found h = ap (λ (c : Result (Unit {0}) F). or_in c k (first_failing check (k + 1) later)) h

pub no_fault : {A F : Type 0} (check : A → Result (Unit {0}) F) (k : ℕ) → first_failing check k [] ≡ None
unfolding first_failing
no_fault check k = refl

-- Of all items, which are numbered from `first` on, those that are left are numbered from `number` on. The first fault of all is that of those
-- that are left, and what is made of those that are left comes after what was made of those before.
pub record Reading {A M F : Type 0} (check : A → Result (Unit {0}) F) (Is : A → M → Type 0) (first : ℕ) (all : List A) (number : ℕ) (left : List A) (made : List M) : Type 0 where
  pub fault : first_failing check first all ≡ first_failing check number left
  pub are : (later : List M) → AllZip Is left later → AllZip Is all (made ++ later)

pub first_read : {A M F : Type 0} (check : A → Result (Unit {0}) F) (Is : A → M → Type 0) (first : ℕ) (all left : List A) → all ≡ left → Reading check Is first all first left []
first_read {A} {M} {F} check Is first all left same = record {
  fault = ap (first_failing check first) same;
  are = λ later h. subst (λ (items : List A). AllZip Is items later) (sym same) h;
}

-- one more that is fine, of which this was made; what was made is seen by `view`
pub one_more_read : {A M N F : Type 0} (check : A → Result (Unit {0}) F) (Is : A → M → Type 0) (view : N → M) (first : ℕ) (all : List A) (number : ℕ) (left : List A) (before after : List N) (new : N) (item : A) (later : List A)
    → Reading check Is first all number left (map view before) → left ≡ item ∷ later → check item ≡ Ok tt → Is item (view new) → after ≡ before ++ new ∷ []
    → Reading check Is first all (number + 1) later (map view after)
one_more_read {A} {M} {N} {F} check Is view first all number left before after new item later h are ok is grown = record {
  fault = h.fault ∙ ap (first_failing check number) are ∙ fault_step check number item later (Ok tt) ok;
  are = λ made rest. subst (λ (ms : List M). AllZip Is all ms) (sym (ap (λ (ns : List N). map view ns ++ made) grown ∙ pushed before made))
      (h.are (view new ∷ made) (subst (λ (items : List A). AllZip Is items (view new ∷ made)) (sym are) (is, rest)));
}
  where
    pushed : (before : List N) (made : List M) → map view (before ++ new ∷ []) ++ made ≡ map view before ++ view new ∷ made
    pushed [] made = refl
    pushed (b ∷ bs) made = ap (λ (ms : List M). view b ∷ ms) (pushed bs made)

-- at the end
pub all_fine : {A M F : Type 0} (check : A → Result (Unit {0}) F) (Is : A → M → Type 0) (first : ℕ) (all : List A) (number : ℕ) (left : List A) (made : List M) → Reading check Is first all number left made → left ≡ [] → first_failing check first all ≡ None
all_fine check Is first all number left made h none = h.fault ∙ ap (first_failing check number) none ∙ no_fault check number

pub all_made : {A M F : Type 0} (check : A → Result (Unit {0}) F) (Is : A → M → Type 0) (first : ℕ) (all : List A) (number : ℕ) (left : List A) (made : List M) → Reading check Is first all number left made → left ≡ [] → AllZip Is all made
all_made {A} {M} {F} check Is first all number left made h none =
    subst (λ (ms : List M). AllZip Is all ms) (append-nil made) (h.are [] (subst (λ (items : List A). AllZip Is items []) (sym none) tt))

-- ---- the first is fine, and those behind it
pub none_here : {F : Type 0} (check : Result (Unit {0}) F) (item : ℕ) (later : Option (ℕ × F)) → or_in check item later ≡ None → (check ≡ Ok tt) × (later ≡ None)
none_here (Ok tt) item later e = (refl, e)
none_here (Err fault) item later e = cc
