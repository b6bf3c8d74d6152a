-- Halving the numbers that may be the last start.
use Rattle.std.specs.Prelude.{slice_index}
use Rattle.std.proofs.Common.{◌≡◌, ℕ, suc, ◌+◌, ◌-◌, ◌*◌, ◌/◌, ◌^◌, ◌<◌, ◌≤◌, List, length, ap, subst, ◌∙◌, arith}
use Rattle.std.proofs.Math.Nat.{pow-suc, mul_assoc, mul-le-mul_left, le-mul_of_pos_right}
use Rattle.std.proofs.lemmas.List.Sorted.{IsNonDecreasingBy-from_all_adjacent}
use Rattle.sf_lookup.specs.Starts.{NeverFall}

-- Each address before `low` is reached, and none from `high` on; `now - before` steps were taken.
pub record Halving (starts : List ℕ) (pc low high before now : ℕ) : Type 0 where
  pub order : low ≤ high
  pub within : high ≤ length starts
  pub reached : 0 < low → slice_index starts (low - 1) ≤ pc
  pub above : (j : ℕ) → high ≤ j → j < length starts → pc < slice_index starts j
  pub counted : before ≤ now
  pub left : 2 ^ (now - before) * (high - low) ≤ length starts
  pub cost : 2 ^ (now - before) ≤ 2 * length starts + 1

-- one step more doubles the power
doubles : (before now : ℕ) → before ≤ now → 2 ^ (now + 1 - before) ≡ 2 ^ (now - before) * 2
doubles before now le =
    let one : now + 1 - before ≡ suc (now - before) = omega (le, arith) in
    ap (λ k. 2 ^ k) one ∙ pow-suc 2 (now - before)

-- half of what is left costs a step
halves : (power width half most : ℕ) → power * width ≤ most → 2 * half ≤ width → power * 2 * half ≤ most
halves power width half most le h =
    let same = mul_assoc power 2 half in
    let more = mul-le-mul_left power h in
    omega (same, more, le, arith)

once : (power width most : ℕ) → power * width ≤ most → 0 < width → power * 2 ≤ 2 * most + 1
once power width most le lt = let more = le-mul_of_pos_right power lt in omega (more, le, arith)

-- a step that leaves the numbers after the middle, or those before it
pub upper : (starts : List ℕ) (pc low high before now next : ℕ) → Halving starts pc low high before now → low < high → next ≡ now + 1
    → slice_index starts (low + (high - low) / 2) ≤ pc → Halving starts pc (low + (high - low) / 2 + 1) high before next
upper starts pc low high before now next h lt step le =
    let power = ap (λ k. 2 ^ (k - before)) step ∙ doubles before now h.counted in
    record {
      order = omega (lt, arith);
      within = h.within;
      reached = λ _. subst (λ k. slice_index starts k ≤ pc) (omega arith) le;
      above = h.above;
      counted = omega (h.counted, step, arith);
      left = rw power (halves (2 ^ (now - before)) (high - low) (high - (low + (high - low) / 2 + 1)) (length starts) h.left (omega (lt, arith)));
      cost = rw power (once (2 ^ (now - before)) (high - low) (length starts) h.left (omega (lt, arith)));
    }

pub lower : (starts : List ℕ) (pc low high before now next : ℕ) → NeverFall starts → Halving starts pc low high before now → low < high → next ≡ now + 1
    → pc < slice_index starts (low + (high - low) / 2) → Halving starts pc low (low + (high - low) / 2) before next
lower starts pc low high before now next falls h lt step gt =
    let power = ap (λ k. 2 ^ (k - before)) step ∙ doubles before now h.counted in
    record {
      order = omega (lt, arith);
      within = omega (lt, h.within, arith);
      reached = h.reached;
      above = λ j le within. let rises = IsNonDecreasingBy-from_all_adjacent (λ (n : ℕ). n) starts falls (low + (high - low) / 2) j 0 le within in omega (rises, gt, arith);
      counted = omega (h.counted, step, arith);
      left = rw power (halves (2 ^ (now - before)) (high - low) (low + (high - low) / 2 - low) (length starts) h.left (omega (lt, arith)));
      cost = rw power (once (2 ^ (now - before)) (high - low) (length starts) h.left (omega (lt, arith)));
    }
