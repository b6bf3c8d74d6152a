-- The first of a list that has a number, where the numbers rise.
use Rattle.std.proofs.Common.{◌≡◌, ℕ, zero, suc, ◌+◌, ◌-◌, ◌<◌, ◌≤◌, ◌==◌, Bool, true, ltb, List, [], ◌∷◌, length, get_or, drop, Some, None, refl, sym, ap, ◌∙◌, arith, drop-cons, eq-eqb, ne_eqb, ltb-true, if◌then◌else◌}
use Rattle.std.specs.List.Sorted.{IsNonDecreasingBy}
use Rattle.std.proofs.Math.Seq.{drop-nil}
use Rattle.std.proofs.lemmas.List.{drop_all, get_or-drop, length-drop}
use Rattle.elf_reloc.specs.Order.{first_at}

pub nil : {X : Type 0} → (number : X → ℕ) (n : ℕ) → first_at number n [] ≡ None
unfolding first_at
nil number n = refl

cons : {X : Type 0} → (number : X → ℕ) (n : ℕ) (x : X) (xs : List X) → first_at number n (x ∷ xs) ≡ (if number x == n then Some x else first_at number n xs)
unfolding first_at
cons number n x xs = refl

pub same : {X : Type 0} → (number : X → ℕ) (n : ℕ) (x : X) (xs : List X) → number x ≡ n → first_at number n (x ∷ xs) ≡ Some x
same {X = X} number n x xs h = cons number n x xs ∙ ap (λ (b : Bool). if b then Some x else first_at number n xs) (eq-eqb (number x) n h)

pub other : {X : Type 0} → (number : X → ℕ) (n : ℕ) (x : X) (xs : List X) → (number x ≡ n → ⊥) → first_at number n (x ∷ xs) ≡ first_at number n xs
other {X = X} number n x xs h = cons number n x xs ∙ ap (λ (b : Bool). if b then Some x else first_at number n xs) (ne_eqb (number x) n h)

skip : {X : Type 0} → (number : X → ℕ) (n : ℕ) (xs : List X) (i : ℕ) → ((k : ℕ) (d : X) → k < i → number (get_or xs k d) < n) → first_at number n xs ≡ first_at number n (drop i xs)
skip number n [] i h = ap (first_at number n) (sym (drop-nil i))
skip number n (x ∷ xs) zero h = refl
skip {X = X} number n (x ∷ xs) (suc i) h =
    let below : number x < n = h 0 x (omega arith) in
    let differ : number x ≡ n → ⊥ = λ e. omega (arith, e, below) in
    other number n x xs differ ∙ skip number n xs i (λ k d within. h (suc k) d (omega arith))

beyond : {X : Type 0} → (number : X → ℕ) (n : ℕ) (d : X) (xs : List X) → ((k : ℕ) → k < length xs → n < number (get_or xs k d)) → first_at number n xs ≡ None
beyond number n d [] h = nil number n
beyond number n d (x ∷ xs) h =
    let above : n < number x = h 0 (omega arith) in
    let differ : number x ≡ n → ⊥ = λ e. omega (arith, e, above) in
    other number n x xs differ ∙ beyond number n d xs (λ k within. h (suc k) (omega arith))

abbrev pub AllBefore : {X : Type 0} → (X → ℕ) → ℕ → List X → ℕ → Type 0
AllBefore {X = X} number n xs i = (k : ℕ) (d : X) → 0 ≤ k → k < i → ltb (number (get_or xs k d)) n ≡ true

skipped : {X : Type 0} → (number : X → ℕ) (n : ℕ) (xs : List X) (i : ℕ) → AllBefore number n xs i → first_at number n xs ≡ first_at number n (drop i xs)
skipped number n xs i before = skip number n xs i (λ k d within. ltb-true _ _ (before k d (omega arith) within))

pub found : {X : Type 0} → (number : X → ℕ) (n : ℕ) (xs : List X) (i : ℕ) (x : X) → AllBefore number n xs i → i < length xs → x ≡ get_or xs i x → number x ≡ n → Some x ≡ first_at number n xs
found {X = X} number n xs i x before within is h =
    let rest : drop i xs ≡ x ∷ drop (suc i) xs = drop-cons xs i x within ∙ ap (λ (y : X). y ∷ drop (suc i) xs) (sym is) in
    sym (skipped number n xs i before ∙ ap (first_at number n) rest ∙ same number n x (drop (suc i) xs) h)

pub missed : {X : Type 0} → (number : X → ℕ) (n : ℕ) (xs : List X) (i : ℕ) (x : X) → IsNonDecreasingBy number xs → AllBefore number n xs i → i < length xs → x ≡ get_or xs i x → n ≤ number x → (number x ≡ n → ⊥) → None ≡ first_at number n xs
missed {X = X} number n xs i x rising before within is above differ =
    let more : n < number x = omega (arith, above, differ) in
    let far : (k : ℕ) → k < length (drop i xs) → n < number (get_or (drop i xs) k x) = λ k inside.
    let at : get_or (drop i xs) k x ≡ get_or xs (i + k) x = get_or-drop i xs k x in
    let len : length (drop i xs) ≡ length xs - i = length-drop i xs in
    let end : i + k < length xs = omega (arith, len, inside) in
    let up : number (get_or xs i x) ≤ number (get_or xs (i + k) x) = rising i (i + k) x (omega arith) end in
    let here : number (get_or xs i x) ≡ number x = ap number (sym is) in
    let there : number (get_or (drop i xs) k x) ≡ number (get_or xs (i + k) x) = ap number at in
    omega (arith, more, up, here, there) in
    sym (skipped number n xs i before ∙ beyond number n x (drop i xs) far)

pub past : {X : Type 0} → (number : X → ℕ) (n : ℕ) (xs : List X) (i : ℕ) → AllBefore number n xs i → length xs ≤ i → None ≡ first_at number n xs
past number n xs i before end = sym (skipped number n xs i before ∙ ap (first_at number n) (drop_all i xs end) ∙ nil number n)
