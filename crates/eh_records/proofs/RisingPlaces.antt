-- Places that rise, and what a search among them finds.
use Rattle.std.specs.Prelude.{◌==◌, nat_lt, is_ok, Result, Ok, Err, MatchResult}
use Rattle.std.specs.List.{list_any}
use Rattle.std.proofs.Common.{◌≡◌, ℕ, zero, suc, ◌+◌, ◌<◌, ◌≤◌, Bool, true, false, cond, List, [], ◌∷◌, ◌++◌, length, get_or, refl, sym, ap, ◌∙◌, arith, length-append}
use Rattle.std.proofs.lemmas.Bool.Decides.{nat_tests}
use Rattle.std.proofs.lemmas.List.{get_or_append_left}
use Rattle.std.proofs.Math.Seq.{get_or-append_seam}
use Rattle.eh_records.specs.Places.{IsRising, IsBefore}

abbrev pub among : ℕ → List ℕ → Bool
among x xs = list_any (λ q. q == x) xs

later : (b c : Bool) → c ≡ true → (cond b true c) ≡ true
later true c h = refl
later false c h = h

pub is_among : (i x : ℕ) (xs : List ℕ) → i < length xs → get_or xs i 0 ≡ x → among x xs ≡ true
is_among i x [] within h = absurd (omega arith)
is_among zero x (y ∷ ys) within h = grind (arith, nat_tests)
is_among (suc i) x (y ∷ ys) within h =
    let rest : among x ys ≡ true = is_among i x ys (omega arith) h in
    grind (arith, nat_tests)

pub isnt_among : (x : ℕ) (xs : List ℕ) → ((k : ℕ) → k < length xs → get_or xs k 0 ≡ x → ⊥) → among x xs ≡ false
isnt_among x [] none = refl
isnt_among x (y ∷ ys) none =
    let first : y ≡ x → ⊥ = none 0 (omega arith) in
    let rest : among x ys ≡ false = isnt_among x ys (λ k lt h. none (suc k) (omega arith) h) in
    grind (arith, nat_tests)

rising_push : (xs : List ℕ) (place : ℕ) → IsRising xs → IsBefore place xs → IsRising (xs ++ place ∷ [])
rising_push xs place up before i j le within =
    let len : length (xs ++ place ∷ []) ≡ length xs + 1 = length-append xs (place ∷ []) in
    let last : get_or (xs ++ place ∷ []) (length xs) 0 ≡ place = get_or-append_seam xs place [] 0 in
    elim (nat_lt j (length xs)) as (λ b. nat_lt j (length xs) ≡ b → get_or (xs ++ place ∷ []) i 0 ≤ get_or (xs ++ place ∷ []) j 0) [
      | true ↦ λ t.
          let lt : j < length xs = grind (arith, nat_tests) in
          let li : i < length xs = omega arith in
          rw (get_or_append_left xs (place ∷ []) 0 i li, get_or_append_left xs (place ∷ []) 0 j lt) (up i j le lt)
      | false ↦ λ t.
          let is : j ≡ length xs = grind (arith, nat_tests) in
          let at_last : get_or (xs ++ place ∷ []) j 0 ≡ place = ap (λ (k : ℕ). get_or (xs ++ place ∷ []) k 0) is ∙ last in
          rw at_last (below_or_last xs place i before (omega arith))
    ] refl
  where
    below_or_last : (xs : List ℕ) (place i : ℕ) → IsBefore place xs → i ≤ length xs → get_or (xs ++ place ∷ []) i 0 ≤ place
    below_or_last xs place i before le = elim (nat_lt i (length xs)) as (λ b. nat_lt i (length xs) ≡ b → get_or (xs ++ place ∷ []) i 0 ≤ place) [
      | true ↦ λ t.
          let lt : i < length xs = grind (arith, nat_tests) in
          let lower : get_or xs i 0 < place = before i lt in
          rw (get_or_append_left xs (place ∷ []) 0 i lt) (omega arith)
      | false ↦ λ t.
          let is : i ≡ length xs = grind (arith, nat_tests) in
          let at_last : get_or (xs ++ place ∷ []) i 0 ≡ place = ap (λ (k : ℕ). get_or (xs ++ place ∷ []) k 0) is ∙ get_or-append_seam xs place [] 0 in
          rw at_last (omega arith)
    ] refl

before_push : (xs : List ℕ) (place end : ℕ) → IsBefore place xs → place < end → IsBefore end (xs ++ place ∷ [])
before_push xs place end before less i within =
    let len : length (xs ++ place ∷ []) ≡ length xs + 1 = length-append xs (place ∷ []) in
    elim (nat_lt i (length xs)) as (λ b. nat_lt i (length xs) ≡ b → get_or (xs ++ place ∷ []) i 0 < end) [
      | true ↦ λ t.
          let lt : i < length xs = grind (arith, nat_tests) in
          let lower : get_or xs i 0 < place = before i lt in
          rw (get_or_append_left xs (place ∷ []) 0 i lt) (omega arith)
      | false ↦ λ t.
          let is : i ≡ length xs = grind (arith, nat_tests) in
          let at_last : get_or (xs ++ place ∷ []) i 0 ≡ place = ap (λ (k : ℕ). get_or (xs ++ place ∷ []) k 0) is ∙ get_or-append_seam xs place [] 0 in
          rw at_last less
    ] refl

before_later : (xs : List ℕ) (place end : ℕ) → IsBefore place xs → place < end → IsBefore end xs
before_later xs place end before less i within =
    let lower : get_or xs i 0 < place = before i within in
    omega arith

pub rising_with : (b : Bool) (xs : List ℕ) (place : ℕ) → IsRising xs → IsBefore place xs → IsRising (cond b (xs ++ place ∷ []) xs)
rising_with true xs place up before = rising_push xs place up before
rising_with false xs place up before = up

pub before_with : (b : Bool) (xs : List ℕ) (place end : ℕ) → IsBefore place xs → place < end → IsBefore end (cond b (xs ++ place ∷ []) xs)
before_with true xs place end before less = before_push xs place end before less
before_with false xs place end before less = before_later xs place end before less

-- what a search returned determines whether the place is among these
pub found : (xs : List ℕ) (x : ℕ) (r : Result ℕ ℕ) → MatchResult r (λ i. (i < length xs) × (get_or xs i 0 ≡ x)) (λ i. (i ≤ length xs) × ((k : ℕ) → k < i → get_or xs k 0 < x) × ((k : ℕ) → i ≤ k → k < length xs → x < get_or xs k 0))
    → is_ok r ≡ among x xs
found xs x (Ok i) h = sym (is_among i x xs h.0 h.1)
found xs x (Err i) h = sym (isnt_among x xs (λ k within e. elim (nat_lt k i) as (λ b. nat_lt k i ≡ b → ⊥) [
  | true ↦ λ t.
      let lower : get_or xs k 0 < x = h.1 k (grind (arith, nat_tests)) in
      omega (arith, e)
  | false ↦ λ t.
      let higher : x < get_or xs k 0 = h.2 k (grind (arith, nat_tests)) within in
      omega (arith, e)
] refl))
