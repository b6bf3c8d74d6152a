-- There is one order of a list by rising key, in which items of one key stay in their order.
use Rattle.std.specs.Prelude.{nat_lt}
use Rattle.std.specs.List.{filter}
use Rattle.std.specs.List.Sorted.{IsNonDecreasingBy, ties}
use Rattle.std.specs.Ordering.{nat_cmp, is_lt}
use Rattle.std.specs.declared.cmp.Ordering.TheVariants.{Less, Equal, Greater}
use Rattle.std.proofs.Common.{◌≡◌, ℕ, zero, suc, ◌<◌, ◌≤◌, Bool, true, false, cond, eqb, List, [], ◌∷◌, length, get_or, refl, sym, ap, ◌∙◌, arith, inl, inr}
use Rattle.std.proofs.lemmas.Bool.{cases_lt, lt-ltb, le-ltb}

-- ---- ties
by_test : (b equal : Bool) → is_lt (cond b Less (cond equal Equal Greater)) ≡ b
by_test true equal = refl
by_test false true = refl
by_test false false = refl

less_is : (a b : ℕ) → is_lt (nat_cmp a b) ≡ nat_lt a b
less_is a b = by_test (nat_lt a b) (eqb a b)

module _ {X : Type 0} (key : X → ℕ) where
  abbrev pub tied : X → X → Bool
  tied = ties (λ a b. is_lt (nat_cmp (key a) (key b)))

  pub tied_same : (a b : X) → key a ≡ key b → tied a b ≡ true
  tied_same a b e =
      let one : is_lt (nat_cmp (key a) (key b)) ≡ false = less_is (key a) (key b) ∙ le-ltb (key a) (key b) (omega (arith, e)) in
      let other : is_lt (nat_cmp (key b) (key a)) ≡ false = less_is (key b) (key a) ∙ le-ltb (key b) (key a) (omega (arith, e)) in
      rw (one, other) refl

  pub tied_apart : (a b : X) → key a < key b → tied a b ≡ false
  tied_apart a b lt =
      let one : is_lt (nat_cmp (key a) (key b)) ≡ true = less_is (key a) (key b) ∙ lt-ltb (key a) (key b) lt in
      rw one refl

  pub tied_apart_back : (a b : X) → key b < key a → tied a b ≡ false
  tied_apart_back a b lt =
      let one : is_lt (nat_cmp (key a) (key b)) ≡ false = less_is (key a) (key b) ∙ le-ltb (key a) (key b) (omega (arith, lt)) in
      let other : is_lt (nat_cmp (key b) (key a)) ≡ true = less_is (key b) (key a) ∙ lt-ltb (key b) (key a) lt in
      rw (one, other) refl

  pub tied_means : (a b : X) → tied a b ≡ true → key a ≡ key b
  tied_means a b e =
      elim (cases_lt (key a) (key b)) [
        | inl lt ↦ let is = sym (tied_apart a b lt) ∙ e in cc
        | inr not_less ↦ elim (cases_lt (key b) (key a)) [
          | inl lt ↦ let is = sym (tied_apart_back a b lt) ∙ e in cc
          | inr not_more ↦ omega (arith, not_less, not_more)
        ]
      ]

  -- ---- rising keys
  abbrev pub NoneBelow : ℕ → List X → Type 0
  NoneBelow least [] = Unit {0}
  NoneBelow least (e ∷ es) = (least ≤ key e) × NoneBelow least es

  none_tied : (e : X) (least : ℕ) (es : List X) → key e < least → NoneBelow least es → filter (tied e) es ≡ []
  none_tied e least [] lt h = refl
  none_tied e least (f ∷ es) lt h =
      ap (λ (b : Bool). cond b (f ∷ filter (tied e) es) (filter (tied e) es)) (tied_apart e f (omega (arith, lt, h.0))) ∙ none_tied e least es lt h.1

  pub tail_rises : (e : X) (es : List X) → IsNonDecreasingBy key (e ∷ es) → IsNonDecreasingBy key es
  tail_rises e es h = λ i j d le lt. h (suc i) (suc j) d (omega (arith, le)) (omega (arith, lt))

  pub none_below : (least : ℕ) (es : List X) → ((j : ℕ) (d : X) → j < length es → least ≤ key (get_or es j d)) → NoneBelow least es
  none_below least [] h = tt
  none_below least (e ∷ es) h = (h 0 e (omega arith), none_below least es (λ j d lt. h (suc j) d (omega (arith, lt))))

  first_least : (e : X) (es : List X) → IsNonDecreasingBy key (e ∷ es) → NoneBelow (key e) (e ∷ es)
  first_least e es h = none_below (key e) (e ∷ es) (λ j d lt. h 0 j d (omega arith) lt)

  -- ---- the same, item by item
  abbrev pub Rises : List X → Type 0
  Rises [] = Unit {0}
  Rises (e ∷ es) = NoneBelow (key e) es × Rises es

  below_at : (least : ℕ) (es : List X) (j : ℕ) (d : X) → NoneBelow least es → j < length es → least ≤ key (get_or es j d)
  below_at least [] j d h lt = absurd (omega (lt, arith))
  below_at least (e ∷ es) zero d h lt = h.0
  below_at least (e ∷ es) (suc j) d h lt = below_at least es j d h.1 (omega (lt, arith))

  pub rises_from_items : (es : List X) → Rises es → IsNonDecreasingBy key es
  rises_from_items [] h = λ i j d le lt. absurd (omega (lt, arith))
  rises_from_items (e ∷ es) h = at (rises_from_items es h.1)
    where
      at : IsNonDecreasingBy key es → (i j : ℕ) (d : X) → i ≤ j → j < length (e ∷ es) → key (get_or (e ∷ es) i d) ≤ key (get_or (e ∷ es) j d)
      at later zero zero d le lt = omega arith
      at later zero (suc j) d le lt = below_at (key e) es j d h.0 (omega (lt, arith))
      at later (suc i) zero d le lt = absurd (omega (le, arith))
      at later (suc i) (suc j) d le lt = later i j d (omega (le, arith)) (omega (lt, arith))

  -- ---- the order
  head_is : (e : X) (es : List X) → filter (tied e) (e ∷ es) ≡ e ∷ filter (tied e) es
  head_is e es = ap (λ (b : Bool). cond b (e ∷ filter (tied e) es) (filter (tied e) es)) (tied_same e e refl)

  first_is_not_later : (e f : X) (es fs : List X) → key e < key f → IsNonDecreasingBy key (f ∷ fs) → filter (tied e) (e ∷ es) ≡ filter (tied e) (f ∷ fs) → ⊥
  first_is_not_later e f es fs lt rise h =
      let is : e ∷ filter (tied e) es ≡ [] = sym (head_is e es) ∙ h ∙ none_tied e (key f) (f ∷ fs) lt (first_least f fs rise) in
      cc

  same_head : (e f : X) (es fs : List X) → key e ≡ key f → filter (tied e) (e ∷ es) ≡ filter (tied e) (f ∷ fs) → e ≡ f
  same_head e f es fs same h =
      let is : e ∷ filter (tied e) es ≡ f ∷ filter (tied e) fs = sym (head_is e es) ∙ h ∙ ap (λ (b : Bool). cond b (f ∷ filter (tied e) fs) (filter (tied e) fs)) (tied_same e f same) in
      cc

  same_behind : (x e : X) (es fs : List X) → filter (tied x) (e ∷ es) ≡ filter (tied x) (e ∷ fs) → filter (tied x) es ≡ filter (tied x) fs
  same_behind x e es fs h = at_test (tied x e) h
    where
      at_test : (b : Bool) → cond b (e ∷ filter (tied x) es) (filter (tied x) es) ≡ cond b (e ∷ filter (tied x) fs) (filter (tied x) fs) → filter (tied x) es ≡ filter (tied x) fs
      at_test true h = cc
      at_test false h = h

  pub one_order_of : (es fs : List X) → IsNonDecreasingBy key es → IsNonDecreasingBy key fs → ((x : X) → filter (tied x) es ≡ filter (tied x) fs) → es ≡ fs
  one_order_of [] [] rise rise' h = refl
  one_order_of [] (f ∷ fs) rise rise' h = let is : [] ≡ f ∷ filter (tied f) fs = h f ∙ head_is f fs in cc
  one_order_of (e ∷ es) [] rise rise' h = let is : [] ≡ e ∷ filter (tied e) es = sym (h e) ∙ head_is e es in cc
  one_order_of (e ∷ es) (f ∷ fs) rise rise' h =
      elim (cases_lt (key e) (key f)) [
        | inl lt ↦ absurd (first_is_not_later e f es fs lt rise' (h e))
        | inr not_less ↦ elim (cases_lt (key f) (key e)) [
          | inl lt ↦ absurd (first_is_not_later f e fs es lt rise (sym (h f)))
          | inr not_more ↦
              let same : e ≡ f = same_head e f es fs (omega (arith, not_less, not_more)) (h e) in
              let rest = one_order_of es fs (tail_rises e es rise) (tail_rises f fs rise')
              (λ x. same_behind x e es fs (h x ∙ ap (λ (g : X). filter (tied x) (g ∷ fs)) (sym same))) in
              ap (λ (g : X). g ∷ es) same ∙ ap (λ (gs : List X). f ∷ gs) rest
        ]
      ]
