-- The values of a function at the numbers below n, made item by item.
use Rattle.std.proofs.Common.{◌≡◌, ℕ, zero, suc, ◌+◌, ◌<◌, ◌≤◌, List, [], ◌∷◌, ◌++◌, length, map, get_or, refl, sym, ap, ◌∙◌, arith, length-append, inl, inr}
use Rattle.std.proofs.Math.Nat.{eq-or-lt_of_le}
use Rattle.std.proofs.Math.ListN.{get_or-append}
use Rattle.std.proofs.Math.Seq.{get_or-append_seam}
use Rattle.std.proofs.lemmas.List.{ext_get_or, map-append}
use Rattle.elf_read.specs.Checking.{numbers_below}

abbrev pub values_below : {X : Type 0} → ℕ → (ℕ → X) → List X
values_below n f = map f (numbers_below n)

pub values_below-none : {X : Type 0} → (f : ℕ → X) → values_below 0 f ≡ []
unfolding numbers_below
values_below-none f = refl

values_below-suc : {X : Type 0} → (n : ℕ) (f : ℕ → X) → values_below (suc n) f ≡ values_below n f ++ f n ∷ []
unfolding numbers_below
values_below-suc n f = map-append f (numbers_below n) (n ∷ [])

pub values_below-more : {X : Type 0} → (n : ℕ) (f : ℕ → X) → values_below (n + 1) f ≡ values_below n f ++ f n ∷ []
values_below-more n f =
    let next : n + 1 ≡ suc n = omega arith in
    ap (λ (k : ℕ). values_below k f) next ∙ values_below-suc n f

pub length-values_below : {X : Type 0} → (n : ℕ) (f : ℕ → X) → length (values_below n f) ≡ n
length-values_below zero f = ap length (values_below-none f)
length-values_below {X = X} (suc n) f =
    let all : length (values_below n f ++ f n ∷ []) ≡ length (values_below n f) + 1 = length-append (values_below n f) (f n ∷ []) in
    let before : length (values_below n f) ≡ n = length-values_below n f in
    ap length (values_below-suc n f) ∙ omega (arith, all, before)

pub get_or-values_below : {X : Type 0} → (n : ℕ) (f : ℕ → X) (i : ℕ) (d : X) → i < n → get_or (values_below n f) i d ≡ f i
get_or-values_below zero f i d within = absurd (omega arith)
get_or-values_below {X = X} (suc n) f i d within =
    let upto : i ≤ n = omega arith in
    let len : length (values_below n f) ≡ n = length-values_below n f in
    elim (eq-or-lt_of_le upto) [
      | inl same ↦
          ap (λ (xs : List X). get_or xs i d) (values_below-suc n f)
          ∙ ap (λ (k : ℕ). get_or (values_below n f ++ f n ∷ []) k d) (same ∙ sym len)
          ∙ get_or-append_seam (values_below n f) (f n) [] d
          ∙ ap f (sym same)
      | inr below ↦
          ap (λ (xs : List X). get_or xs i d) (values_below-suc n f)
          ∙ get_or-append (values_below n f) (f n ∷ []) d i (omega (arith, len))
          ∙ get_or-values_below n f i d below
    ]

-- items that are the values make the list of the values
pub are_values_below : {X : Type 0} → (n : ℕ) (f : ℕ → X) (xs : List X) (d : X) → length xs ≡ n → ((i : ℕ) → i < n → get_or xs i d ≡ f i) → xs ≡ values_below n f
are_values_below n f xs d len items =
    ext_get_or d xs (values_below n f) (len ∙ sym (length-values_below n f))
    (λ i within. let below : i < n = omega (arith, len) in items i below ∙ sym (get_or-values_below n f i d below))
