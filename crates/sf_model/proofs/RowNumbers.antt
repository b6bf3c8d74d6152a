-- What the bytes of a row determine: its start, its info byte and its offsets.
use Rattle.std.proofs.Common.{◌≡◌, ℕ, ◌+◌, ◌*◌, ◌<◌, ◌≤◌, ◌/◌, ◌%◌, ◌^◌, w32, ℤ, pos, true, IsTrue, List, ◌++◌, of_z, ap, sym, ◌∙◌, arith, nat_lt}
use Rattle.std.specs.Prelude.{zero, suc, negsuc}
use Rattle.byteorder.specs.Numbers.{little_from-bytes, little_number-reads_back}
use Rattle.byteorder.specs.Endian.{little_from, little_bytes}
use Rattle.sf_model.specs.Width.{holds_unsigned, holds_signed, unsigned_bytes, signed_bytes}

-- a test that passed
pub below_if : (m n : ℕ) → nat_lt m n ≡ true → m < n
below_if m n e = search arith

-- two numbers from 0 that are in front of the same bytes
pub unsigned_same : (w m n : ℕ) (t u : List ℕ) → w ≤ 2 → IsTrue (holds_unsigned m w) → IsTrue (holds_unsigned n w)
    → unsigned_bytes w m ++ t ≡ unsigned_bytes w n ++ u → m ≡ n
unsigned_same zero m n t u k p q e =
    sym (little_number-reads_back 1 m t (below_if m 256 p)) ∙ (ap (little_from 0 1) e ∙ little_number-reads_back 1 n u (below_if n 256 q))
unsigned_same (suc zero) m n t u k p q e =
    sym (little_number-reads_back 2 m t (below_if m 65536 p)) ∙ (ap (little_from 0 2) e ∙ little_number-reads_back 2 n u (below_if n 65536 q))
unsigned_same (suc (suc zero)) m n t u k p q e =
    sym (little_number-reads_back 4 m t (below_if m 4294967296 p)) ∙ (ap (little_from 0 4) e ∙ little_number-reads_back 4 n u (below_if n 4294967296 q))
unsigned_same (suc (suc (suc w))) m n t u k p q e = absurd (omega arith)

-- signed numbers in one byte, in two and in four
in_one : (y z : ℤ) → IsTrue (holds_signed y 0) → IsTrue (holds_signed z 0) → of_z w32 y % 256 ≡ of_z w32 z % 256 → y ≡ z
in_one (pos m) (pos n) p q e = let a : m < 128 = below_if m 128 p in let b : n < 128 = below_if n 128 q in let c : m ≡ n = omega (a, b, e, arith) in ap pos c
in_one (pos m) (negsuc n) p q e = let a : m < 128 = below_if m 128 p in let b : n < 128 = below_if n 128 q in absurd (omega (a, b, e, arith))
in_one (negsuc m) (pos n) p q e = let a : m < 128 = below_if m 128 p in let b : n < 128 = below_if n 128 q in absurd (omega (a, b, e, arith))
in_one (negsuc m) (negsuc n) p q e = let a : m < 128 = below_if m 128 p in let b : n < 128 = below_if n 128 q in let c : m ≡ n = omega (a, b, e, arith) in ap negsuc c

in_two : (y z : ℤ) → IsTrue (holds_signed y 1) → IsTrue (holds_signed z 1) → of_z w32 y % 65536 ≡ of_z w32 z % 65536 → y ≡ z
in_two (pos m) (pos n) p q e = let a : m < 32768 = below_if m 32768 p in let b : n < 32768 = below_if n 32768 q in let c : m ≡ n = omega (a, b, e, arith) in ap pos c
in_two (pos m) (negsuc n) p q e = let a : m < 32768 = below_if m 32768 p in let b : n < 32768 = below_if n 32768 q in absurd (omega (a, b, e, arith))
in_two (negsuc m) (pos n) p q e = let a : m < 32768 = below_if m 32768 p in let b : n < 32768 = below_if n 32768 q in absurd (omega (a, b, e, arith))
in_two (negsuc m) (negsuc n) p q e = let a : m < 32768 = below_if m 32768 p in let b : n < 32768 = below_if n 32768 q in let c : m ≡ n = omega (a, b, e, arith) in ap negsuc c

in_four : (y z : ℤ) → IsTrue (holds_signed y 2) → IsTrue (holds_signed z 2) → of_z w32 y % 4294967296 ≡ of_z w32 z % 4294967296 → y ≡ z
in_four (pos m) (pos n) p q e = let a : m < 2147483648 = below_if m 2147483648 p in let b : n < 2147483648 = below_if n 2147483648 q in let c : m ≡ n = omega (a, b, e, arith) in ap pos c
in_four (pos m) (negsuc n) p q e = let a : m < 2147483648 = below_if m 2147483648 p in let b : n < 2147483648 = below_if n 2147483648 q in absurd (omega (a, b, e, arith))
in_four (negsuc m) (pos n) p q e = let a : m < 2147483648 = below_if m 2147483648 p in let b : n < 2147483648 = below_if n 2147483648 q in absurd (omega (a, b, e, arith))
in_four (negsuc m) (negsuc n) p q e = let a : m < 2147483648 = below_if m 2147483648 p in let b : n < 2147483648 = below_if n 2147483648 q in let c : m ≡ n = omega (a, b, e, arith) in ap negsuc c

by_one : (x : ℕ) → x / 1 ≡ x
by_one x = omega arith

whole : (x m : ℕ) → x / 1 % m ≡ x % m
whole x m = ap (λ y. y % m) (by_one x)

-- what the first bytes of a signed number read as
reads_as : (len : ℕ) (z : ℤ) (t : List ℕ) → little_from 0 len (little_bytes len (of_z w32 z) ++ t) ≡ of_z w32 z % 256 ^ len
reads_as len z t = little_from-bytes len 0 (of_z w32 z) t ∙ whole (of_z w32 z) (256 ^ len)

-- two signed numbers that are in front of the same bytes
pub signed_same : (w : ℕ) (y z : ℤ) (t u : List ℕ) → w ≤ 2 → IsTrue (holds_signed y w) → IsTrue (holds_signed z w)
    → signed_bytes w y ++ t ≡ signed_bytes w z ++ u → y ≡ z
signed_same zero y z t u k p q e = in_one y z p q (sym (reads_as 1 y t) ∙ (ap (little_from 0 1) e ∙ reads_as 1 z u))
signed_same (suc zero) y z t u k p q e = in_two y z p q (sym (reads_as 2 y t) ∙ (ap (little_from 0 2) e ∙ reads_as 2 z u))
signed_same (suc (suc zero)) y z t u k p q e = in_four y z p q (sym (reads_as 4 y t) ∙ (ap (little_from 0 4) e ∙ reads_as 4 z u))
signed_same (suc (suc (suc w))) y z t u k p q e = absurd (omega arith)

-- the four parts of an info byte
pub info_base : (b c z s b' c' z' s' : ℕ) → b ≤ 1 → c ≤ 15 → z ≤ 2 → s ≤ 1 → b' ≤ 1 → c' ≤ 15 → z' ≤ 2 → s' ≤ 1
    → b + 2 * c + 32 * z + 128 * s ≡ b' + 2 * c' + 32 * z' + 128 * s' → (b ≡ b') × (c ≡ c') × (z ≡ z') × (s ≡ s')
info_base b c z s b' c' z' s' p q r t p' q' r' t' e = (omega arith, omega arith, omega arith, omega arith)
