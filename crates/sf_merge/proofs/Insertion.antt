-- A list can be sorted by a test that ranks its elements; elements that tie keep their order.
use Rattle.std.specs.Cmp.{IsStrictWeakOrder}
use Rattle.std.specs.List.{filter}
use Rattle.std.specs.List.Sorted.{IsPermutation, IsSortedBy, IsStableBy, ties}
use Rattle.std.specs.Prelude.{not, ◌&&◌}
use Rattle.std.proofs.Common.{◌≡◌, ℕ, zero, suc, ◌+◌, Bool, true, false, cond, List, [], ◌∷◌, All, get_or, refl, sym, ap, subst, ◌∙◌, arith}
use Rattle.std.proofs.lemmas.List.Sorted.{IsPermutation-refl, IsPermutation-trans, IsPermutation-cons, IsPermutation-swap, All-permutation, sorted_far}
use Rattle.std.proofs.lemmas.List.Elements.{All-nil, All-cons}

module _ {X : Type 0} (lt : X → X → Bool) (order : IsStrictWeakOrder lt) where
  -- insertion before the first element that is not less
  abbrev insert : X → List X → List X
  insert x [] = x ∷ []
  insert x (y ∷ ys) = cond (lt y x) (y ∷ insert x ys) (x ∷ y ∷ ys)

  abbrev pub ordered : List X → List X
  ordered [] = []
  ordered (x ∷ xs) = insert x (ordered xs)

  put : (x y : X) (ys : List X) (b : Bool) → lt y x ≡ b → insert x (y ∷ ys) ≡ cond b (y ∷ insert x ys) (x ∷ y ∷ ys)
  put x y ys b e = ap (λ (c : Bool). cond c (y ∷ insert x ys) (x ∷ y ∷ ys)) e

  -- ---- the same elements
  swapped : (x y : X) (ys : List X) → IsPermutation (x ∷ y ∷ ys) (y ∷ x ∷ ys)
  swapped x y ys = IsPermutation-swap (x ∷ y ∷ ys) (y ∷ x ∷ ys) 0 1 (omega arith) (omega arith) refl

  inserted : (x : X) (ys : List X) → IsPermutation (x ∷ ys) (insert x ys)
  inserted x [] = IsPermutation-refl (x ∷ [])
  inserted x (y ∷ ys) = at_test (lt y x) refl (inserted x ys)
    where
      at_test : (b : Bool) → lt y x ≡ b → IsPermutation (x ∷ ys) (insert x ys) → IsPermutation (x ∷ y ∷ ys) (insert x (y ∷ ys))
      at_test true e later = subst (IsPermutation (x ∷ y ∷ ys)) (sym (put x y ys true e))
          (IsPermutation-trans (x ∷ y ∷ ys) (y ∷ x ∷ ys) (y ∷ insert x ys) (swapped x y ys) (IsPermutation-cons y (x ∷ ys) (insert x ys) later))
      at_test false e later = subst (IsPermutation (x ∷ y ∷ ys)) (sym (put x y ys false e)) (IsPermutation-refl (x ∷ y ∷ ys))

  pub moved : (xs : List X) → IsPermutation xs (ordered xs)
  moved [] = IsPermutation-refl []
  moved (x ∷ xs) = IsPermutation-trans (x ∷ xs) (x ∷ ordered xs) (insert x (ordered xs)) (IsPermutation-cons x xs (ordered xs) (moved xs)) (inserted x (ordered xs))

  -- ---- none is less than the one before it
  follow : (x : X) (xs : List X) → All (λ (y : X). lt y x ≡ false) xs → IsSortedBy lt xs → IsSortedBy lt (x ∷ xs)
  follow x xs least up zero d le within = least 0 d (omega (arith, within))
  follow x xs least up (suc k) d le within =
      let place : suc (k + 1) ≡ suc k + 1 = omega arith in
      subst (λ (m : ℕ). lt (get_or (x ∷ xs) m d) (get_or xs k d) ≡ false) place (up k d (omega arith) (omega (arith, within)))

  tail : (x : X) (xs : List X) → IsSortedBy lt (x ∷ xs) → IsSortedBy lt xs
  tail x xs up = λ k d le within.
      let place : suc k + 1 ≡ suc (k + 1) = omega arith in
      subst (λ (m : ℕ). lt (get_or (x ∷ xs) m d) (get_or xs k d) ≡ false) place (up (suc k) d (omega arith) (omega (arith, within)))

  head : (x : X) (xs : List X) → IsSortedBy lt (x ∷ xs) → All (λ (y : X). lt y x ≡ false) xs
  head x xs up = λ k d within. sorted_far lt order (x ∷ xs) up 0 (suc k) d (omega arith) (omega (arith, within))

  insert_sorted : (x : X) (ys : List X) → IsSortedBy lt ys → IsSortedBy lt (insert x ys)
  insert_sorted x [] up = follow x [] (All-nil (λ (y : X). lt y x ≡ false)) up
  insert_sorted x (y ∷ ys) up = at_test (lt y x) refl (insert_sorted x ys (tail y ys up))
    where
      at_test : (b : Bool) → lt y x ≡ b → IsSortedBy lt (insert x ys) → IsSortedBy lt (insert x (y ∷ ys))
      at_test true e later = subst (IsSortedBy lt) (sym (put x y ys true e))
          (follow y (insert x ys) (All-permutation (λ (z : X). lt z y ≡ false) (x ∷ ys) (insert x ys) (inserted x ys) (All-cons (λ (z : X). lt z y ≡ false) x ys (order.one_way y x e) (head y ys up))) later)
      at_test false e later = subst (IsSortedBy lt) (sym (put x y ys false e))
          (follow x (y ∷ ys) (All-cons (λ (z : X). lt z x ≡ false) y ys e (λ k d within. order.chain (get_or ys k d) y x (head y ys up k d within) e)) up)

  pub sorted : (xs : List X) → IsSortedBy lt (ordered xs)
  sorted [] = λ k d le within. let none : ⊥ = omega (arith, within) in absurd none
  sorted (x ∷ xs) = insert_sorted x (ordered xs) (sorted xs)

  -- ---- elements that tie keep their order
  both_none : (a b : Bool) → (not a && not b) ≡ true → (a ≡ false) × (b ≡ false)
  both_none false false e = (refl, refl)
  both_none false true e = cc
  both_none true b e = cc

  -- of two elements, one less than the other, not both tie with a third
  apart : (z x y : X) → lt y x ≡ true → ties lt z x ≡ true → ties lt z y ≡ true → ⊥
  apart z x y less p q =
      let with_x = both_none (lt z x) (lt x z) p in
      let with_y = both_none (lt z y) (lt y z) q in
      let none : lt y x ≡ false = order.chain y z x with_y.1 with_x.0 in cc

  exchanged : (x y : X) (zs : List X) (b c : Bool) → (b ≡ true → c ≡ true → ⊥) → cond b (x ∷ cond c (y ∷ zs) zs) (cond c (y ∷ zs) zs) ≡ cond c (y ∷ cond b (x ∷ zs) zs) (cond b (x ∷ zs) zs)
  exchanged x y zs true true h = absurd (h refl refl)
  exchanged x y zs true false h = refl
  exchanged x y zs false true h = refl
  exchanged x y zs false false h = refl

  insert_stable : (z x : X) (ys : List X) → filter (ties lt z) (insert x ys) ≡ filter (ties lt z) (x ∷ ys)
  insert_stable z x [] = refl
  insert_stable z x (y ∷ ys) = at_test (lt y x) refl (insert_stable z x ys)
    where
      at_test : (b : Bool) → lt y x ≡ b → filter (ties lt z) (insert x ys) ≡ filter (ties lt z) (x ∷ ys) → filter (ties lt z) (insert x (y ∷ ys)) ≡ filter (ties lt z) (x ∷ y ∷ ys)
      at_test true e later = ap (filter (ties lt z)) (put x y ys true e)
          ∙ ap (λ (fs : List X). cond (ties lt z y) (y ∷ fs) fs) later
          ∙ sym (exchanged x y (filter (ties lt z) ys) (ties lt z x) (ties lt z y) (λ p q. apart z x y e p q))
      at_test false e later = ap (filter (ties lt z)) (put x y ys false e)

  pub stable : (xs : List X) → IsStableBy lt xs (ordered xs)
  stable [] = λ z. refl
  stable (x ∷ xs) = λ z. insert_stable z x (ordered xs) ∙ ap (λ (fs : List X). cond (ties lt z x) (x ∷ fs) fs) (stable xs z)
