-- Which numbers are at a place, where the bytes from there on are known.
use Rattle.std.proofs.Common.{◌≡◌, ◌≤◌, ◌<◌, ℕ, ℤ, zero, suc, pos, negsuc, ◌+◌, ◌*◌, ◌-ℤ◌, ◌+ℤ◌, Bool, true, false, IsTrue, List, ◌++◌, length, drop, slice_index, refl, ap, sym, ◌∙◌, arith, nat_lt, of_z, w32}
use Rattle.std.specs.Prelude.{if◌then◌else◌}
use Rattle.std.proofs.lemmas.List.{drop-drop, get_or-drop}
use Rattle.std.proofs.Math.Seq.{drop-append_seam}
use Rattle.std.proofs.Math.IntN.{+ℤ_comm, -ℤ-+ℤ_cancel}
use Rattle.byteorder.specs.Endian.{little_from, little_bytes, twos_complement}
use Rattle.byteorder.specs.Numbers.{little_number-reads_back}
use Rattle.sf_model.specs.Width.{holds_signed}
use Rattle.sf_model.specs.Section.{number_in}
use Rattle.sf_model.proofs.RowNumbers.{below_if}
use Rattle.sf_model.proofs.BytesDetermined.{not_below}
use Rattle.sf_write.specs.Number.{word_bytes, signed_word_bytes}

-- what follows a run
pub after : (bytes : List ℕ) (place n : ℕ) (run tail : List ℕ) → drop place bytes ≡ run ++ tail → length run ≡ n → drop (place + n) bytes ≡ tail
after bytes place n run tail h e =
    sym (drop-drop n place bytes) ∙ (ap (drop n) h ∙ (ap (λ k. drop k (run ++ tail)) (sym e) ∙ drop-append_seam run tail))

-- one byte after a place
pub byte_at : (bytes tail : List ℕ) (place k : ℕ) → drop place bytes ≡ tail → slice_index bytes (place + k) ≡ slice_index tail k
byte_at bytes tail place k h = sym (get_or-drop place bytes k 0) ∙ ap (λ l. slice_index l k) h

little_at : (len place i : ℕ) (bytes : List ℕ) → little_from (place + i) len bytes ≡ little_from i len (drop place bytes)
little_at zero place i bytes = refl
little_at (suc len) place i bytes =
    let here : slice_index bytes (place + i) ≡ slice_index (drop place bytes) i = sym (get_or-drop place bytes i 0) in
    let e : suc (place + i) ≡ place + suc i = omega arith in
    let later : little_from (suc (place + i)) len bytes ≡ little_from (suc i) len (drop place bytes) =
    ap (λ k. little_from k len bytes) e ∙ little_at len place (suc i) bytes in
    ap (λ x. x + 256 * little_from (suc (place + i)) len bytes) here ∙ ap (λ x. slice_index (drop place bytes) i + 256 * x) later

-- the number that a place begins
pub number_at : (len place : ℕ) (bytes tail : List ℕ) → drop place bytes ≡ tail → number_in len place bytes ≡ little_from 0 len tail
number_at len place bytes tail h =
    let e : place ≡ place + 0 = omega arith in
    ap (λ k. little_from k len bytes) e ∙ (little_at len place 0 bytes ∙ ap (little_from 0 len) h)

-- four bytes of a number from 0
pub word_at : (bytes : List ℕ) (place n : ℕ) (tail : List ℕ) → drop place bytes ≡ word_bytes n ++ tail → n < 4294967296 → number_in 4 place bytes ≡ n
unfolding word_bytes
word_at bytes place n tail h lt = number_at 4 place bytes (little_bytes 4 n ++ tail) h ∙ little_number-reads_back 4 n tail lt

-- a signed number in four bytes reads back
signed_by : (z : ℤ) (x : ℕ) (s : Bool) → nat_lt x 2147483648 ≡ s → x ≡ of_z w32 z → IsTrue (holds_signed z 2)
    → (if s then pos x else pos x -ℤ pos 4294967296) ≡ z
signed_by (pos n) x true e f h = let lt : n < 2147483648 = below_if n 2147483648 h in let g : x ≡ n = omega (f, lt, arith) in ap pos g
signed_by (pos n) x false e f h = let lt : n < 2147483648 = below_if n 2147483648 h in let g : x ≡ n = omega (f, lt, arith) in let u : 2147483648 ≤ x = not_below x 2147483648 e in absurd (omega (u, g, lt, arith))
signed_by (negsuc n) x true e f h = let lt : n < 2147483648 = below_if n 2147483648 h in let u : x < 2147483648 = below_if x 2147483648 e in absurd (omega (f, u, lt, arith))
signed_by (negsuc n) x false e f h = let lt : n < 2147483648 = below_if n 2147483648 h in let g : x + suc n ≡ 4294967296 = omega (f, lt, arith) in grind arith

word_lt : (z : ℤ) → IsTrue (holds_signed z 2) → of_z w32 z < 4294967296
word_lt (pos n) h = let lt : n < 2147483648 = below_if n 2147483648 h in omega (lt, arith)
word_lt (negsuc n) h = let lt : n < 2147483648 = below_if n 2147483648 h in omega (lt, arith)

reads_as : (z : ℤ) (tail : List ℕ) → IsTrue (holds_signed z 2) → little_from 0 4 (little_bytes 4 (of_z w32 z) ++ tail) ≡ of_z w32 z
reads_as z tail h = little_number-reads_back 4 (of_z w32 z) tail (word_lt z h)

pub signed_word_at : (bytes : List ℕ) (place : ℕ) (z : ℤ) (tail : List ℕ) → drop place bytes ≡ signed_word_bytes z ++ tail → IsTrue (holds_signed z 2)
    → twos_complement 4 (number_in 4 place bytes) ≡ z
unfolding signed_word_bytes
signed_word_at bytes place z tail h fits =
    let x : ℕ = number_in 4 place bytes in
    let read : x ≡ of_z w32 z = number_at 4 place bytes (little_bytes 4 (of_z w32 z) ++ tail) h ∙ reads_as z tail fits in
    signed_by z x (nat_lt x 2147483648) refl read fits

-- an address, counted from another
pub counted_from : (m n : ℕ) (z : ℤ) → z ≡ pos m -ℤ pos n → pos m ≡ pos n +ℤ z
counted_from m n z e = sym (ap (λ y. pos n +ℤ y) e ∙ (+ℤ_comm (pos n) (pos m -ℤ pos n) ∙ -ℤ-+ℤ_cancel (pos m) (pos n)))
