-- Lists with the same elements: what is kept from one to the other.
use Rattle.std.specs.List.{filter, flat_map, swap, AllPairs}
use Rattle.std.specs.List.Sorted.{IsPermutation}
use Rattle.std.proofs.Common.{◌≡◌, ℕ, zero, suc, ◌<◌, Bool, true, false, cond, List, [], ◌∷◌, ◌++◌, length, get_or, set, refl, ap, append_assoc, arith}
use Rattle.std.proofs.lemmas.List.Elements.{All-cons, All-head, All-tail}
use Rattle.std.proofs.lemmas.List.Kept.{AllPairs-cons}
use Rattle.std.proofs.lemmas.List.Sorted.{IsPermutation-refl, IsPermutation-trans, IsPermutation-cons, IsPermutation-keeps, IsPermutation-append_left, IsPermutation-append_right, IsPermutation-append_comm, All-permutation}
use Rattle.sf_model.proofs.Unions.{pairs_head, pairs_tail}

-- A relation that is reflexive and transitive, and holds under a head and over an exchange of two heads, holds of lists
-- with the same elements.
module _ {X : Type 0} (R : List X → List X → Type 0)
    (same : (xs : List X) → R xs xs)
    (under : (x : X) (xs ys : List X) → R xs ys → R (x ∷ xs) (x ∷ ys))
    (over : (x y : X) (xs : List X) → R (x ∷ y ∷ xs) (y ∷ x ∷ xs))
    (chain : (xs ys zs : List X) → R xs ys → R ys zs → R xs zs) where
  -- the head in the place of a later element, and that one at the head
  with_head : (xs : List X) (j : ℕ) (x d : X) → j < length xs → R (x ∷ xs) (get_or xs j d ∷ set xs j x)
  with_head [] j x d lt = absurd (omega (lt, arith))
  with_head (y ∷ xs) zero x d lt = over x y xs
  with_head (y ∷ xs) (suc j) x d lt =
      chain _ _ _ (over x y xs) (chain _ _ _ (under y _ _ (with_head xs j x d (omega (lt, arith)))) (over y (get_or xs j d) (set xs j x)))

  exchanged : (xs : List X) (i j : ℕ) (d : X) → i < length xs → j < length xs → R xs (set (set xs i (get_or xs j d)) j (get_or xs i d))
  exchanged [] i j d lt lt' = absurd (omega (lt, arith))
  exchanged (x ∷ xs) zero zero d lt lt' = same (x ∷ xs)
  exchanged (x ∷ xs) zero (suc j) d lt lt' = with_head xs j x d (omega (lt', arith))
  exchanged (x ∷ xs) (suc i) zero d lt lt' = with_head xs i x d (omega (lt, arith))
  exchanged (x ∷ xs) (suc i) (suc j) d lt lt' = under x _ _ (exchanged xs i j d (omega (lt, arith)) (omega (lt', arith)))

  swapped : (xs : List X) (i j : ℕ) → i < length xs → j < length xs → R xs (swap xs i j)
  swapped [] i j lt lt' = absurd (omega (lt, arith))
  swapped (x ∷ xs) i j lt lt' = exchanged (x ∷ xs) i j x lt lt'

  pub along : (xs ys : List X) → IsPermutation xs ys → R xs ys
  along xs ys = IsPermutation-keeps xs (R xs) (same xs) (λ l i j lt lt' h. chain xs l _ h (swapped l i j lt lt')) ys

-- what each element holds
pub flat_map_permuted : {X Y : Type 0} (f : X → List Y) (xs ys : List X) → IsPermutation xs ys → IsPermutation (flat_map f xs) (flat_map f ys)
flat_map_permuted f = along (λ xs ys. IsPermutation (flat_map f xs) (flat_map f ys))
    (λ xs. IsPermutation-refl (flat_map f xs))
    (λ x xs ys h. IsPermutation-append_right (f x) (flat_map f xs) (flat_map f ys) h)
    (λ x y xs. rw (← append_assoc (f x), ← append_assoc (f y)) (IsPermutation-append_left (flat_map f xs) (f x ++ f y) (f y ++ f x) (IsPermutation-append_comm (f x) (f y))))
    (λ xs ys zs. IsPermutation-trans _ _ _)

-- the elements that pass a test
filter_by : {X : Type 0} (p : X → Bool) (x : X) → List X
filter_by p x = cond (p x) (x ∷ []) []

pub filter_as_flat_map : {X : Type 0} (p : X → Bool) (xs : List X) → flat_map (λ x. cond (p x) (x ∷ []) []) xs ≡ filter p xs
filter_as_flat_map p [] = refl
filter_as_flat_map p (x ∷ xs) = at_test (p x) (filter_as_flat_map p xs)
  where
    at_test : (b : Bool) → flat_map (λ x. cond (p x) (x ∷ []) []) xs ≡ filter p xs
        → cond b (x ∷ []) [] ++ flat_map (λ x. cond (p x) (x ∷ []) []) xs ≡ cond b (x ∷ filter p xs) (filter p xs)
    at_test true e = ap (λ ys. x ∷ ys) e
    at_test false e = e

pub filter_permuted : {X : Type 0} (p : X → Bool) (xs ys : List X) → IsPermutation xs ys → IsPermutation (filter p xs) (filter p ys)
filter_permuted p xs ys h = rw (← filter_as_flat_map p xs, ← filter_as_flat_map p ys) (flat_map_permuted (λ x. cond (p x) (x ∷ []) []) xs ys h)

-- ---- pairs
-- a relation that goes both ways holds of each two elements in any order of them
record KeepsPairs {X : Type 0} (R : X → X → Type 0) (xs ys : List X) : Type 0 where
  moved : IsPermutation xs ys
  kept : AllPairs R xs → AllPairs R ys

pairs_over : {X : Type 0} (R : X → X → Type 0) → ((x y : X) → R x y → R y x) → (x y : X) (xs : List X) → AllPairs R (x ∷ y ∷ xs) → AllPairs R (y ∷ x ∷ xs)
pairs_over R turned x y xs h =
    let of_x = pairs_head R x (y ∷ xs) h in
    let rest = pairs_tail R x (y ∷ xs) h in
    AllPairs-cons R y (x ∷ xs)
    (All-cons (R y) x xs (turned x y (All-head (R x) y xs of_x)) (pairs_head R y xs rest))
    (AllPairs-cons R x xs (All-tail (R x) y xs of_x) (pairs_tail R y xs rest))

over_permuted : {X : Type 0} (x y : X) (xs : List X) → IsPermutation (x ∷ y ∷ xs) (y ∷ x ∷ xs)
over_permuted x y xs = IsPermutation-append_left xs (x ∷ y ∷ []) (y ∷ x ∷ []) (IsPermutation-append_comm (x ∷ []) (y ∷ []))

pub pairs_permuted : {X : Type 0} (R : X → X → Type 0) → ((x y : X) → R x y → R y x) → (xs ys : List X) → IsPermutation xs ys → AllPairs R xs → AllPairs R ys
pairs_permuted R turned xs ys h pairs = (along (KeepsPairs R)
    (λ xs. record { moved = IsPermutation-refl xs; kept = λ h. h })
    (λ x xs ys h. record {
      moved = IsPermutation-cons x xs ys h.moved;
      kept = λ pairs. AllPairs-cons R x ys (All-permutation (R x) xs ys h.moved (pairs_head R x xs pairs)) (h.kept (pairs_tail R x xs pairs));
    })
    (λ x y xs. record { moved = over_permuted x y xs; kept = pairs_over R turned x y xs })
    (λ xs ys zs h k. record { moved = IsPermutation-trans _ _ _ h.moved k.moved; kept = λ pairs. k.kept (h.kept pairs) })
    xs ys h).kept pairs
