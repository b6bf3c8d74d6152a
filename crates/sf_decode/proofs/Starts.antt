-- A start moved up by 2^31, and the start as a signed number from where it counts.
use Rattle.std.proofs.Common.{◌≡◌, ◌<◌, ℕ, ◌+◌, ◌%◌, pos, ◌+ℤ◌, ◌-ℤ◌, Bool, true, false, refl, ap, sym, ◌∙◌, arith, nat_lt}
use Rattle.std.specs.Prelude.{if◌then◌else◌}
use Rattle.std.proofs.Math.IntN.{+ℤ_assoc, +ℤ-neg_ℤ_cancel, -ℤ-+ℤ_cancel, neg_ℤ}
use Rattle.byteorder.specs.Endian.{twos_complement}
use Rattle.sf_decode.proofs.Holds.{lt_if, ge_if_not}

-- a sum of numbers from 0, a power taken off
down : (s o x : ℕ) → s + 4294967296 ≡ o + x → pos s ≡ pos o +ℤ (pos x -ℤ pos 4294967296)
down s o x e =
    sym (+ℤ-neg_ℤ_cancel (pos s) (pos 4294967296)) ∙ (ap (λ n. pos n -ℤ pos 4294967296) e ∙ +ℤ_assoc (pos o) (pos x) (neg_ℤ (pos 4294967296)))

signed_by : (s o x : ℕ) (t : Bool) → nat_lt x 2147483648 ≡ t → x < 4294967296 → s + 2147483648 ≡ o + (x + 2147483648) % 4294967296
    → pos s ≡ pos o +ℤ (if t then pos x else pos x -ℤ pos 4294967296)
signed_by s o x true low lt e = let below = lt_if x 2147483648 low in let same : s ≡ o + x = omega (below, e, arith) in ap pos same
signed_by s o x false low lt e = let high = ge_if_not x 2147483648 low in down s o x (omega (high, lt, e, arith))

pub signed_start : (s o x : ℕ) → x < 4294967296 → s + 2147483648 ≡ o + (x + 2147483648) % 4294967296 → pos s ≡ pos o +ℤ twos_complement 4 x
signed_start s o x lt e = signed_by s o x (nat_lt x 2147483648) refl lt e

same_number : (m n : ℕ) → pos m ≡ pos n → m ≡ n
same_number m n e = cc

up : (s o x : ℕ) → pos s ≡ pos o +ℤ (pos x -ℤ pos 4294967296) → s + 4294967296 ≡ o + x
up s o x e =
    same_number (s + 4294967296) (o + x)
    (ap (λ z. z +ℤ pos 4294967296) (e ∙ sym (+ℤ_assoc (pos o) (pos x) (neg_ℤ (pos 4294967296)))) ∙ -ℤ-+ℤ_cancel (pos o +ℤ pos x) (pos 4294967296))

raised_by : (s o x : ℕ) (t : Bool) → nat_lt x 2147483648 ≡ t → x < 4294967296 → pos s ≡ pos o +ℤ (if t then pos x else pos x -ℤ pos 4294967296)
    → s + 2147483648 ≡ o + (x + 2147483648) % 4294967296
raised_by s o x true low lt e = let below = lt_if x 2147483648 low in let same : s ≡ o + x = same_number s (o + x) e in omega (below, same, arith)
raised_by s o x false low lt e = let high = ge_if_not x 2147483648 low in let sum = up s o x e in omega (high, lt, sum, arith)

pub raised_of_signed : (s o x : ℕ) → x < 4294967296 → pos s ≡ pos o +ℤ twos_complement 4 x → s + 2147483648 ≡ o + (x + 2147483648) % 4294967296
raised_of_signed s o x lt e = raised_by s o x (nat_lt x 2147483648) refl lt e
