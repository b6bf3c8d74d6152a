-- Lists by rising key, those of one key in their order: there is such an order and only one, and what is seen of the elements is in
-- that order, too.
use Rattle.std.specs.Prelude.{nat_le}
use Rattle.std.specs.List.{AllByRecursion, filter}
use Rattle.std.specs.List.Sorted.{IsPermutation, IsNonDecreasingBy, IsStableByKey}
use Rattle.std.specs.Ordering.{nat_cmp}
use Rattle.std.proofs.Common.{◌≡◌, ℕ, ◌<◌, ◌≤◌, Bool, true, false, cond, List, [], ◌∷◌, All, map, refl, sym, ap, subst, ◌∙◌, arith}
use Rattle.std.proofs.lemmas.Bool.Decides.{nat_tests}
use Rattle.std.proofs.lemmas.List.Elements.{All-head, All-tail, recursion_from_All}
use Rattle.std.proofs.lemmas.List.Sorted.{All-permutation, IsPermutation-refl, IsPermutation-trans, IsPermutation-cons, IsPermutation-middle}
use Rattle.sf_model.proofs.StableOrder.{tied, tied_means, NoneBelow, Rises, rises_from_items, one_order_of}
use Rattle.sf_functions.specs.Order.{IsInOrder}

-- one element more, before two filters
two_filters : {X : Type 0} (p q : X → Bool) (x : X) (one other : List X) (a b : Bool) → p x ≡ a → q x ≡ b → filter p one ≡ filter q other → filter p (cond b (x ∷ one) one) ≡ filter q (cond a (x ∷ other) other)
two_filters {X} p q x one other true true e f h =
    ap (λ (t : Bool). cond t (x ∷ filter p one) (filter p one)) e ∙ ap (λ (l : List X). x ∷ l) h ∙ sym (ap (λ (t : Bool). cond t (x ∷ filter q other) (filter q other)) f)
two_filters p q x one other true false e f h = h ∙ sym (ap (λ (t : Bool). cond t (x ∷ filter q other) (filter q other)) f)
two_filters p q x one other false true e f h = ap (λ (t : Bool). cond t (x ∷ filter p one) (filter p one)) e ∙ h
two_filters p q x one other false false e f h = h

filter_commutes : {X : Type 0} (p q : X → Bool) (xs : List X) → filter p (filter q xs) ≡ filter q (filter p xs)
filter_commutes p q [] = refl
filter_commutes p q (x ∷ xs) = two_filters p q x (filter q xs) (filter p xs) (p x) (q x) refl refl (filter_commutes p q xs)

module _ {X : Type 0} (key : X → ℕ) where
  -- an element before the first that is not below it
  abbrev pub put_in : X → List X → List X
  put_in x [] = x ∷ []
  put_in x (y ∷ ys) = cond (nat_le (key x) (key y)) (x ∷ y ∷ ys) (y ∷ put_in x ys)

  abbrev pub by_key : List X → List X
  by_key [] = []
  by_key (x ∷ xs) = put_in x (by_key xs)

  -- ---- the same elements
  put_moved : (x : X) (ys : List X) → IsPermutation (x ∷ ys) (put_in x ys)
  put_moved x [] = IsPermutation-refl (x ∷ [])
  put_moved x (y ∷ ys) = at_test (nat_le (key x) (key y)) (put_moved x ys)
    where
      at_test : (b : Bool) → IsPermutation (x ∷ ys) (put_in x ys) → IsPermutation (x ∷ y ∷ ys) (cond b (x ∷ y ∷ ys) (y ∷ put_in x ys))
      at_test true h = IsPermutation-refl (x ∷ y ∷ ys)
      at_test false h = IsPermutation-trans (x ∷ y ∷ ys) (y ∷ x ∷ ys) (y ∷ put_in x ys) (IsPermutation-middle (x ∷ []) y ys) (IsPermutation-cons y (x ∷ ys) (put_in x ys) h)

  pub by_key-moved : (xs : List X) → IsPermutation xs (by_key xs)
  by_key-moved [] = IsPermutation-refl []
  by_key-moved (x ∷ xs) = IsPermutation-trans (x ∷ xs) (x ∷ by_key xs) (put_in x (by_key xs)) (IsPermutation-cons x xs (by_key xs) (by_key-moved xs)) (put_moved x (by_key xs))

  -- ---- rising
  lowers : (a b : ℕ) (ys : List X) → a ≤ b → NoneBelow key b ys → NoneBelow key a ys
  lowers a b [] le h = tt
  lowers a b (y ∷ ys) le h = (omega (arith, le, h.0), lowers a b ys le h.1)

  put_above : (least : ℕ) (x : X) (ys : List X) → least ≤ key x → NoneBelow key least ys → NoneBelow key least (put_in x ys)
  put_above least x [] le h = (le, tt)
  put_above least x (y ∷ ys) le h = at_test (nat_le (key x) (key y)) (put_above least x ys le h.1)
    where
      at_test : (b : Bool) → NoneBelow key least (put_in x ys) → NoneBelow key least (cond b (x ∷ y ∷ ys) (y ∷ put_in x ys))
      at_test true rest = (le, h)
      at_test false rest = (h.0, rest)

  put_rises : (x : X) (ys : List X) → Rises key ys → Rises key (put_in x ys)
  put_rises x [] h = (tt, tt)
  put_rises x (y ∷ ys) h = at_test (nat_le (key x) (key y)) refl (put_rises x ys h.1)
    where
      at_test : (b : Bool) → nat_le (key x) (key y) ≡ b → Rises key (put_in x ys) → Rises key (cond b (x ∷ y ∷ ys) (y ∷ put_in x ys))
      at_test true t rest =
          let le : key x ≤ key y = grind (arith, nat_tests) in
          ((le, lowers (key x) (key y) ys le h.0), h)
      at_test false t rest =
          let le : key y ≤ key x = grind (arith, nat_tests) in
          (put_above (key y) x ys le h.0, rest)

  by_key_rises : (xs : List X) → Rises key (by_key xs)
  by_key_rises [] = tt
  by_key_rises (x ∷ xs) = put_rises x (by_key xs) (by_key_rises xs)

  filter_above : (p : X → Bool) (least : ℕ) (ys : List X) → NoneBelow key least ys → NoneBelow key least (filter p ys)
  filter_above p least [] h = tt
  filter_above p least (y ∷ ys) h = at_test (p y) (filter_above p least ys h.1)
    where
      at_test : (b : Bool) → NoneBelow key least (filter p ys) → NoneBelow key least (cond b (y ∷ filter p ys) (filter p ys))
      at_test true rest = (h.0, rest)
      at_test false rest = rest

  filter_rises : (p : X → Bool) (ys : List X) → Rises key ys → Rises key (filter p ys)
  filter_rises p [] h = tt
  filter_rises p (y ∷ ys) h = at_test (p y) (filter_rises p ys h.1)
    where
      at_test : (b : Bool) → Rises key (filter p ys) → Rises key (cond b (y ∷ filter p ys) (filter p ys))
      at_test true rest = (filter_above p (key y) ys h.0, rest)
      at_test false rest = rest

  pub by_key-rising : (xs : List X) → IsNonDecreasingBy key (by_key xs)
  by_key-rising xs = rises_from_items key (by_key xs) (by_key_rises xs)

  -- ---- those with one key stay in order
  put_stable : (z x : X) (ys : List X) → filter (tied key z) (put_in x ys) ≡ filter (tied key z) (x ∷ ys)
  put_stable z x [] = refl
  put_stable z x (y ∷ ys) = at_test (nat_le (key x) (key y)) refl (put_stable z x ys)
    where
      two : (a b : Bool) (l : List X) → (a ≡ true → b ≡ true → ⊥) → cond b (y ∷ cond a (x ∷ l) l) (cond a (x ∷ l) l) ≡ cond a (x ∷ cond b (y ∷ l) l) (cond b (y ∷ l) l)
      two true true l apart = absurd (apart refl refl)
      two true false l apart = refl
      two false true l apart = refl
      two false false l apart = refl

      at_test : (b : Bool) → nat_le (key x) (key y) ≡ b → filter (tied key z) (put_in x ys) ≡ filter (tied key z) (x ∷ ys) → filter (tied key z) (cond b (x ∷ y ∷ ys) (y ∷ put_in x ys)) ≡ filter (tied key z) (x ∷ y ∷ ys)
      at_test true t h = refl
      at_test false t h =
          let lt : key y < key x = grind (arith, nat_tests) in
          ap (λ (l : List X). cond (tied key z y) (y ∷ l) l) h
          ∙ two (tied key z x) (tied key z y) (filter (tied key z) ys)
          (λ e f. let one = tied_means key z x e in let other = tied_means key z y f in absurd (omega (arith, lt, one, other)))

  pub by_key-stable : (z : X) (xs : List X) → filter (tied key z) (by_key xs) ≡ filter (tied key z) xs
  by_key-stable z [] = refl
  by_key-stable z (x ∷ xs) = put_stable z x (by_key xs) ∙ ap (λ (l : List X). cond (tied key z x) (x ∷ l) l) (by_key-stable z xs)

  -- ---- there is one such order
  pub by_key-only : (xs ys : List X) → IsNonDecreasingBy key ys → IsStableByKey key nat_cmp xs ys → ys ≡ by_key xs
  by_key-only xs ys rising stable = one_order_of key ys (by_key xs) rising (by_key-rising xs) (λ z. stable z ∙ sym (by_key-stable z xs))

  pub by_key-filter : (p : X → Bool) (xs : List X) → filter p (by_key xs) ≡ by_key (filter p xs)
  by_key-filter p xs =
      by_key-only (filter p xs) (filter p (by_key xs)) (rises_from_items key (filter p (by_key xs)) (filter_rises p (by_key xs) (by_key_rises xs)))
      (λ z. filter_commutes (tied key z) p (by_key xs) ∙ ap (filter p) (by_key-stable z xs) ∙ filter_commutes p (tied key z) xs)

  -- ---- the order
  pub in_order : (xs : List X) → IsInOrder key xs (by_key xs)
  in_order xs = record { moved = by_key-moved xs; rising = by_key-rising xs; stable = λ z. by_key-stable z xs }

  pub one_order : (all xs ys : List X) → IsInOrder key all xs → IsInOrder key all ys → xs ≡ ys
  one_order all xs ys h k = one_order_of key xs ys h.rising k.rising (λ z. h.stable z ∙ sym (k.stable z))

-- what is seen of elements, with the same keys
module _ {X Y : Type 0} (view : X → Y) (key : X → ℕ) (seen_key : Y → ℕ) where
  abbrev pub HasKey : X → Type 0
  HasKey x = seen_key (view x) ≡ key x

  map_put : (x : X) (ys : List X) → HasKey x → AllByRecursion HasKey ys → map view (put_in key x ys) ≡ put_in seen_key (view x) (map view ys)
  map_put x [] e h = refl
  map_put x (y ∷ ys) e h = at_test (nat_le (key x) (key y)) refl (map_put x ys e h.1)
    where
      at_test : (b : Bool) → nat_le (key x) (key y) ≡ b → map view (put_in key x ys) ≡ put_in seen_key (view x) (map view ys)
          → map view (cond b (x ∷ y ∷ ys) (y ∷ put_in key x ys)) ≡ cond (nat_le (seen_key (view x)) (seen_key (view y))) (view x ∷ view y ∷ map view ys) (view y ∷ put_in seen_key (view x) (map view ys))
      at_test true t later = rw (e, h.0, t) refl
      at_test false t later = rw (e, h.0, t) (ap (λ (l : List Y). view y ∷ l) later)

  pub by_key-map : (xs : List X) → All HasKey xs → map view (by_key key xs) ≡ by_key seen_key (map view xs)
  by_key-map [] h = refl
  by_key-map (x ∷ xs) h =
      let rest = All-tail HasKey x xs h in
      map_put x (by_key key xs) (All-head HasKey x xs h) (recursion_from_All HasKey (by_key key xs) (All-permutation HasKey xs (by_key key xs) (by_key-moved key xs) rest))
      ∙ ap (put_in seen_key (view x)) (by_key-map xs rest)

  pub seen_in_order : (all ordered : List X) → All HasKey all → IsInOrder key all ordered → IsInOrder seen_key (map view all) (map view ordered)
  seen_in_order all ordered h order =
      subst (IsInOrder seen_key (map view all)) (sym (ap (map view) (by_key-only key all ordered order.rising order.stable) ∙ by_key-map all h)) (in_order seen_key (map view all))
