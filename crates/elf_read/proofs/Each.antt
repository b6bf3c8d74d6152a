-- The same check of each item below a number: how a loop over the items follows it.
use Rattle.std.proofs.Common.{◌≡◌, ℕ, zero, suc, ◌+◌, ◌<◌, ◌≤◌, Result, Ok, Err, refl, sym, ap, ◌∙◌, arith, inl, inr}
use Rattle.std.proofs.Math.Nat.{eq-or-lt_of_le}
use Rattle.elf_read.specs.Checking.{◌>>◌, each_below}

each_below-suc : {E : Type 0} → (n : ℕ) (check : ℕ → Result (Unit {0}) E) → each_below (suc n) check ≡ (each_below n check >> check n)
unfolding each_below
each_below-suc n check = refl

pub both_fine : {E : Type 0} → (a b : Result (Unit {0}) E) → (a >> b) ≡ Ok tt → (a ≡ Ok tt) × (b ≡ Ok tt)
both_fine (Ok u) b h = (refl, h)
both_fine (Err e) b h = absurd (let differ : Err e ≡ Ok tt = h in cc)

pub each_below-none : {E : Type 0} → (check : ℕ → Result (Unit {0}) E) → each_below 0 check ≡ Ok tt
unfolding each_below
each_below-none check = refl

pub each_below-more : {E : Type 0} → (i : ℕ) (check : ℕ → Result (Unit {0}) E) → each_below i check ≡ Ok tt → check i ≡ Ok tt → each_below (i + 1) check ≡ Ok tt
each_below-more {E = E} i check before here =
    let next : i + 1 ≡ suc i = omega arith in
    ap (λ (n : ℕ). each_below n check) next ∙ each_below-suc i check ∙ ap (λ (c : Result (Unit {0}) E). c >> check i) before ∙ here

-- an item that fails after items that don't is the fault of all
pub each_below-stop : {E : Type 0} → (n i : ℕ) (check : ℕ → Result (Unit {0}) E) (e : E) → i < n → each_below i check ≡ Ok tt → check i ≡ Err e → each_below n check ≡ Err e
each_below-stop {E = E} zero i check e within before here = absurd (omega arith)
each_below-stop {E = E} (suc n) i check e within before here =
    let upto : i ≤ n = omega arith in
    elim (eq-or-lt_of_le upto) [
      | inl same ↦ each_below-suc n check ∙ ap (λ (k : ℕ). each_below k check >> check k) (sym same) ∙ ap (λ (c : Result (Unit {0}) E). c >> check i) before ∙ here
      | inr below ↦ each_below-suc n check ∙ ap (λ (c : Result (Unit {0}) E). c >> check n) (each_below-stop n i check e below before here)
    ]

-- where all are fine, each is
pub each_below-at : {E : Type 0} → (n i : ℕ) (check : ℕ → Result (Unit {0}) E) → i < n → each_below n check ≡ Ok tt → check i ≡ Ok tt
each_below-at zero i check within fine = absurd (omega (arith, within))
each_below-at (suc n) i check within fine =
    let upto : i ≤ n = omega (arith, within) in
    let parts = both_fine (each_below n check) (check n) (sym (each_below-suc n check) ∙ fine) in
    elim (eq-or-lt_of_le upto) [
      | inl same ↦ ap check same ∙ parts.1
      | inr below ↦ each_below-at n i check below parts.0
    ]
