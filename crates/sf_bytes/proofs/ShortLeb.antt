-- A number of one byte.
use Rattle.std.specs.Prelude.{nat_lt}
use Rattle.std.proofs.Common.{◌≡◌, ℕ, ◌+◌, ◌<◌, ◌^◌, Bool, true, cond, List, [], ◌∷◌, Ok, refl, ap, arith}
use Rattle.std.proofs.lemmas.Bool.{lt-ltb}
use Rattle.sf_bytes.specs.Cursor.{Cursor}
use Rattle.sf_bytes.specs.Leb.{leb_sum, longer, run_length, uleb_at}

length_of_one : (place b : ℕ) (bs : List ℕ) → b < 128 → run_length place 10 (b ∷ bs) ≡ Ok 1
unfolding run_length
length_of_one place b bs lt = ap (λ (t : Bool). cond t (Ok 1) (longer (run_length place 9 bs))) (lt-ltb b 128 lt)

sum_of_one : (b : ℕ) → b < 128 → leb_sum (b ∷ []) ≡ b
unfolding leb_sum
sum_of_one b lt = omega arith

pub one_byte : (at : Cursor) (b : ℕ) (bs : List ℕ) → at.left ≡ b ∷ bs → b < 128 → uleb_at at ≡ Ok (b, record { place = at.place + 1; left = bs })
unfolding uleb_at
one_byte at b bs is lt =
    let small : nat_lt b (2 ^ 64) ≡ true = lt-ltb b (2 ^ 64) (omega (arith, lt)) in
    rw (is, length_of_one at.place b bs lt, sum_of_one b lt, small) refl
