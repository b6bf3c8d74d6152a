-- How long a LEB128 number is, and its sum.
use Rattle.std.proofs.Common.{◌≡◌, ℕ, zero, suc, ◌+◌, ◌-◌, ◌*◌, ◌%◌, ◌^◌, ◌<◌, ◌≤◌, List, [], ◌∷◌, length, get_or, drop, Result, Ok, Err, refl, sym, ap, ◌∙◌, arith, drop-cons, pos, ◌-ℤ◌}
use Rattle.std.specs.Prelude.{nat_lt}
use Rattle.std.proofs.Math.Nat.{pow-suc, pow-le-pow_right}
use Rattle.std.proofs.lemmas.Bool.{lt-ltb, le-ltb}
use Rattle.std.proofs.lemmas.List.{at_drop_all}
use Rattle.sf_bytes.specs.declared.fault.ByteFault.{ByteFault}
use Rattle.sf_bytes.specs.declared.fault.ByteFault.TheVariants.{Short, Leb}
use Rattle.sf_bytes.specs.Leb.{leb_sum, leb_signed, longer, run_length, is_negative}

-- n more bytes
abbrev pub plus : ℕ → Result ℕ ByteFault → Result ℕ ByteFault
plus n (Ok m) = Ok (n + m)
plus n (Err e) = Err e

plus-longer : (n : ℕ) (r : Result ℕ ByteFault) → plus n (longer r) ≡ plus (n + 1) r
plus-longer n (Ok m) = ap (λ (k : ℕ). Ok k) (omega arith)
plus-longer n (Err e) = refl

pub plus-zero : (r : Result ℕ ByteFault) → plus 0 r ≡ r
plus-zero (Ok m) = ap (λ (k : ℕ). Ok k) (omega arith)
plus-zero (Err e) = refl

pub run_length-goes_on : (place most b : ℕ) (bs : List ℕ) → 128 ≤ b → run_length place (suc most) (b ∷ bs) ≡ longer (run_length place most bs)
unfolding run_length
run_length-goes_on place most b bs h = rw (le-ltb b 128 h) refl

pub run_length-ends : (place most b : ℕ) (bs : List ℕ) → b < 128 → run_length place (suc most) (b ∷ bs) ≡ Ok 1
unfolding run_length
run_length-ends place most b bs h = rw (lt-ltb b 128 h) refl

pub goes_on : (place most count : ℕ) (bytes : List ℕ) → count < most → count < length bytes → 128 ≤ get_or bytes count 0
    → plus count (run_length place (most - count) (drop count bytes)) ≡ plus (count + 1) (run_length place (most - (count + 1)) (drop (count + 1) bytes))
goes_on place most count bytes lt within high =
    let left : most - count ≡ suc (most - (count + 1)) = omega arith in
    let next : count + 1 ≡ suc count = omega arith in
    rw (left, drop-cons bytes count 0 within, run_length-goes_on place (most - (count + 1)) (get_or bytes count 0) (drop (suc count) bytes) high, plus-longer count (run_length place (most - (count + 1)) (drop (suc count) bytes)), next) refl

pub ends : (place most count : ℕ) (bytes : List ℕ) → count < most → count < length bytes → get_or bytes count 0 < 128
    → plus count (run_length place (most - count) (drop count bytes)) ≡ Ok (count + 1)
ends place most count bytes lt within low =
    let left : most - count ≡ suc (most - (count + 1)) = omega arith in
    rw (left, drop-cons bytes count 0 within, run_length-ends place (most - (count + 1)) (get_or bytes count 0) (drop (suc count) bytes) low) refl

pub too_long : (place most count : ℕ) (bytes : List ℕ) → count ≡ most → plus count (run_length place (most - count) (drop count bytes)) ≡ Err (Leb place)
unfolding run_length
too_long place most count bytes e =
    let left : most - count ≡ zero = omega arith in
    rw left refl

run_length-short : (place most : ℕ) (bytes : List ℕ) → length bytes ≡ 0 → run_length place (suc most) bytes ≡ Err (Short place)
unfolding run_length
run_length-short place most [] e = refl
run_length-short place most (b ∷ bs) e = absurd (omega arith)

pub short : (place most count : ℕ) (bytes : List ℕ) → count < most → length (drop count bytes) ≡ 0 → plus count (run_length place (most - count) (drop count bytes)) ≡ Err (Short place)
short place most count bytes lt e =
    let left : most - count ≡ suc (most - (count + 1)) = omega arith in
    rw (left, run_length-short place (most - (count + 1)) (drop count bytes) e) refl

pub leb_sum-cons : (b : ℕ) (bs : List ℕ) → leb_sum (b ∷ bs) ≡ b % 128 + 128 * leb_sum bs
unfolding leb_sum
leb_sum-cons b bs = refl

pub leb_sum-nil : leb_sum [] ≡ 0
unfolding leb_sum
leb_sum-nil = refl

power_positive : (n : ℕ) → 0 < 128 ^ n
power_positive zero = omega arith
power_positive (suc n) = let h = power_positive n in grind (arith, h)

leb_sum-step : (n b s : ℕ) → s < 128 ^ n → b % 128 + 128 * s < 128 ^ suc n
leb_sum-step n b s h = rw (pow-suc 128 n) (omega arith)

pub leb_sum-below : (n : ℕ) (bs : List ℕ) → length bs ≤ n → leb_sum bs < 128 ^ n
leb_sum-below n [] h = rw leb_sum-nil (power_positive n)
leb_sum-below zero (b ∷ bs) h = absurd (omega arith)
leb_sum-below (suc n) (b ∷ bs) h =
    let below : leb_sum bs < 128 ^ n = leb_sum-below n bs (omega arith) in
    rw (leb_sum-cons b bs) (leb_sum-step n b (leb_sum bs) below)

-- ten bytes hold 70 bits
pub leb_sum-fits : (bs : List ℕ) → length bs ≤ 10 → leb_sum bs < 2 ^ 70
leb_sum-fits bs h = leb_sum-below 10 bs h

-- one more byte at the front
pub leb_sum-drop : (i : ℕ) (bs : List ℕ) → 0 < i → i ≤ length bs → leb_sum (drop i bs) * 128 + get_or bs (i - 1) 0 % 128 ≡ leb_sum (drop (i - 1) bs)
leb_sum-drop i bs some within =
    let next : suc (i - 1) ≡ i = omega arith in
    let lt : i - 1 < length bs = omega arith in
    let e : drop (i - 1) bs ≡ get_or bs (i - 1) 0 ∷ drop i bs = drop-cons bs (i - 1) 0 lt ∙ ap (λ (k : ℕ). get_or bs (i - 1) 0 ∷ drop k bs) next in
    rw (e, leb_sum-cons (get_or bs (i - 1) 0) (drop i bs)) (omega arith)

pub leb_sum-all : (bs : List ℕ) → 0 ≡ leb_sum (drop (length bs) bs)
leb_sum-all bs = sym (at_drop_all leb_sum bs (length bs) (omega arith) ∙ leb_sum-nil)

-- the sign is that of the last byte
pub is_negative-last : (b : ℕ) (bs : List ℕ) → is_negative (b ∷ bs) ≡ nat_lt 63 (get_or (b ∷ bs) (length bs) 0 % 128)
unfolding is_negative
is_negative-last b [] = refl
is_negative-last b (c ∷ bs) = is_negative-last c bs

pub is_negative-at : (bs : List ℕ) → 0 < length bs → is_negative bs ≡ nat_lt 63 (get_or bs (length bs - 1) 0 % 128)
is_negative-at [] h = absurd (omega arith)
is_negative-at (b ∷ bs) h =
    let e : length bs ≡ length (b ∷ bs) - 1 = omega arith in
    is_negative-last b bs ∙ ap (λ (k : ℕ). nat_lt 63 (get_or (b ∷ bs) k 0 % 128)) e

pub power_fits : (n : ℕ) → n ≤ 10 → 128 ^ n ≤ 2 ^ 70
power_fits n h = pow-le-pow_right (omega arith) h

pub leb_signed-negative : (bs : List ℕ) → 0 < length bs → 63 < get_or bs (length bs - 1) 0 % 128 → leb_signed bs ≡ pos (leb_sum bs) -ℤ pos (128 ^ length bs)
unfolding leb_signed
leb_signed-negative bs some h = rw (is_negative-at bs some, lt-ltb 63 (get_or bs (length bs - 1) 0 % 128) h) refl

pub leb_signed-positive : (bs : List ℕ) → 0 < length bs → get_or bs (length bs - 1) 0 % 128 ≤ 63 → leb_signed bs ≡ pos (leb_sum bs)
unfolding leb_signed
leb_signed-positive bs some h = rw (is_negative-at bs some, le-ltb 63 (get_or bs (length bs - 1) 0 % 128) h) refl
