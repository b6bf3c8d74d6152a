-- Lists of numbers that rise are one where they have the same members.
use Rattle.std.specs.Prelude.{Contains}
use Rattle.std.specs.List.Sorted.{IsStrictlyIncreasing}
use Rattle.std.proofs.Common.{◌≡◌, ◌⊎◌, ◌<◌, ◌+◌, ℕ, zero, suc, List, [], ◌∷◌, length, get_or, refl, sym, ap, subst, ◌∙◌, inl, inr, arith}
use Rattle.std.proofs.lemmas.List.Kept.{AllPairs-from_increasing}

rest_rises : (x : ℕ) (xs : List ℕ) → IsStrictlyIncreasing (x ∷ xs) → IsStrictlyIncreasing xs
rest_rises x xs h k within =
    let e : suc k + 1 ≡ suc (k + 1) = omega arith in
    subst (λ (n : ℕ). get_or xs k 0 < get_or (x ∷ xs) n 0) e (h (suc k) (omega (arith, within)))

above : (x : ℕ) (xs : List ℕ) → IsStrictlyIncreasing (x ∷ xs) → (k : ℕ) → Contains xs k → x < k
above x xs h k c = subst (λ (n : ℕ). x < n) c.2 (AllPairs-from_increasing (x ∷ xs) h 0 (suc c.0) k (omega arith) (omega (arith, c.1)))

here : (x : ℕ) (xs : List ℕ) → Contains (x ∷ xs) x
here x xs = (0, omega arith, refl)

there : (x : ℕ) (xs : List ℕ) (k : ℕ) → Contains xs k → Contains (x ∷ xs) k
there x xs k c = (suc c.0, omega (arith, c.1), c.2)

at_place : (x : ℕ) (xs : List ℕ) (k i : ℕ) → i < length (x ∷ xs) → get_or (x ∷ xs) i k ≡ k → (x ≡ k) ⊎ Contains xs k
at_place x xs k zero low is = inl is
at_place x xs k (suc i) low is = inr (i, omega (arith, low), is)

head_or_rest : (x : ℕ) (xs : List ℕ) (k : ℕ) → Contains (x ∷ xs) k → (x ≡ k) ⊎ Contains xs k
head_or_rest x xs k c = at_place x xs k c.0 c.1 c.2

same_heads : (x : ℕ) (xs : List ℕ) (y : ℕ) (ys : List ℕ) → IsStrictlyIncreasing (x ∷ xs) → IsStrictlyIncreasing (y ∷ ys) → Contains (y ∷ ys) x → Contains (x ∷ xs) y → x ≡ y
same_heads x xs y ys p q to back = elim (head_or_rest y ys x to) [
  | inl same ↦ sym same
  | inr later ↦ elim (head_or_rest x xs y back) [
    | inl same ↦ same
    | inr after ↦ absurd (omega (arith, above y ys q x later, above x xs p y after))
  ]
]

rest_in : (x : ℕ) (xs : List ℕ) (y : ℕ) (ys : List ℕ) → x ≡ y → IsStrictlyIncreasing (x ∷ xs) → ((k : ℕ) → Contains (x ∷ xs) k → Contains (y ∷ ys) k) → (k : ℕ) → Contains xs k → Contains ys k
rest_in x xs y ys heads p to k c = elim (head_or_rest y ys k (to k (there x xs k c))) [
  | inl same ↦ absurd (omega (arith, heads, same, above x xs p k c))
  | inr found ↦ found
]

pub same_members : (xs ys : List ℕ) → IsStrictlyIncreasing xs → IsStrictlyIncreasing ys → ((k : ℕ) → Contains xs k → Contains ys k) → ((k : ℕ) → Contains ys k → Contains xs k) → xs ≡ ys
same_members [] [] p q to back = refl
same_members [] (y ∷ ys) p q to back = absurd (omega (arith, (back y (here y ys)).1))
same_members (x ∷ xs) [] p q to back = absurd (omega (arith, (to x (here x xs)).1))
same_members (x ∷ xs) (y ∷ ys) p q to back =
    let heads : x ≡ y = same_heads x xs y ys p q (to x (here x xs)) (back y (here y ys)) in
    ap (λ (zs : List ℕ). x ∷ zs)
    (same_members xs ys (rest_rises x xs p) (rest_rises y ys q) (rest_in x xs y ys heads p to) (rest_in y ys x xs (sym heads) q back))
    ∙ ap (λ (z : ℕ). z ∷ ys) heads
