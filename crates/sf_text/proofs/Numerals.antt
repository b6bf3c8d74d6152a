-- Digits from the lowest up, in front of those that are there.
use Rattle.std.proofs.Common.{◌≡◌, ℕ, zero, suc, ◌+◌, ◌-◌, ◌*◌, ◌/◌, ◌%◌, ◌^◌, ◌<◌, ◌≤◌, true, false, List, [], ◌∷◌, nat_eq, refl, sym, ap, subst, ◌∙◌, arith, drop, set, length}
use Rattle.std.specs.Fmt.{decimal, digits, digits_onto, digit_glyph}
use Rattle.std.proofs.Math.Nat.{div-div-eq-div-mul, div-lt_iff_lt-mul, div-eq_of_lt, pow-suc, pow-zero, mod-eq_of_lt, lt-div-mul-add}
use Rattle.std.proofs.lemmas.Bool.{ne_eqb}
use Rattle.std.proofs.lemmas.List.{drop-set, length-set}

-- the digits of what is left, with `places` places free, in front of those that are there
unfoldable pub digits_before : (places base left : ℕ) → List ℕ → List ℕ
digits_before places base left after = digits_onto (44 + places) base false left after

pub all_digits : (base n : ℕ) → digits_before 20 base n [] ≡ digits base false n
unfolding digits_before digits
all_digits base n = refl

power-one : (base : ℕ) → base ^ 1 ≡ base
power-one base = pow-suc base 0 ∙ (ap (λ n. n * base) (pow-zero base) ∙ omega arith)

-- a number that has a digit above its lowest has two places left
pub two_places : (base left start : ℕ) → base ≤ left → left < base ^ start → 1 ≤ start → 2 ≤ start
two_places base left zero high fits some = absurd (omega arith)
two_places base left (suc zero) high fits some = absurd (omega (arith, power-one base))
two_places base left (suc (suc start)) high fits some = omega arith

-- without its lowest digit it has one place fewer
quotient_fits_suc : (base left start : ℕ) → 2 ≤ base → left < base ^ suc start → left / base < base ^ start
quotient_fits_suc base left start low fits =
    let positive : 0 < base = omega arith in
    (div-lt_iff_lt-mul positive).1 (subst (λ n. left < n) (pow-suc base start) fits)

pub quotient_fits : (base left start : ℕ) → 2 ≤ base → 1 ≤ start → left < base ^ start → left / base < base ^ (start - 1)
quotient_fits base left zero low some fits = absurd (omega arith)
quotient_fits base left (suc start) low some fits =
    let e : suc start - 1 ≡ start = omega arith in subst (λ n. left / base < base ^ n) (sym e) (quotient_fits_suc base left start low fits)

quotient_some : (base left : ℕ) → 2 ≤ base → base ≤ left → nat_eq (left / base) 0 ≡ false
quotient_some base left low high =
    ne_eqb (left / base) 0 (λ e.
    let positive : 0 < base = omega arith in
    let above : left < left / base * base + base = lt-div-mul-add positive in
    let short : left < 0 * base + base = subst (λ q. left < q * base + base) e above in
    omega (arith, short))

more_suc : (k base left : ℕ) (after : List ℕ) → nat_eq (left / base) 0 ≡ false →
    digits_onto (suc k) base false left after ≡ digits_onto k base false (left / base) (digit_glyph false (left % base) ∷ after)
more_suc k base left after some = rw some

-- a digit that is not the last
pub more_digits : (places base left : ℕ) (after : List ℕ) → 2 ≤ base → base ≤ left → 1 ≤ places →
    digits_before (places - 1) base (left / base) (digit_glyph false (left % base) ∷ after) ≡ digits_before places base left after
unfolding digits_before
more_digits places base left after low high some =
    let e : 44 + places ≡ suc (44 + (places - 1)) = omega arith in
    sym (ap (λ k. digits_onto k base false left after) e ∙ more_suc (44 + (places - 1)) base left after (quotient_some base left low high))

last_suc : (k base left : ℕ) (after : List ℕ) → nat_eq (left / base) 0 ≡ true → left % base ≡ left →
    digits_onto (suc k) base false left after ≡ digit_glyph false left ∷ after
last_suc k base left after none same = rw none (ap (λ d. digit_glyph false d ∷ after) same)

-- the last digit
pub last_digit : (places base left : ℕ) (after : List ℕ) → left < base → 1 ≤ places →
    digit_glyph false left ∷ after ≡ digits_before places base left after
unfolding digits_before
last_digit places base left after low some =
    let e : 44 + places ≡ suc (44 + (places - 1)) = omega arith in
    sym (ap (λ k. digits_onto k base false left after) e
    ∙ last_suc (44 + (places - 1)) base left after (ap (λ q. nat_eq q 0) (div-eq_of_lt low)) (mod-eq_of_lt low))

-- a digit in front of those that are there
pub digit_in_front : (bytes : List ℕ) (start digit : ℕ) → 1 ≤ start → start ≤ length bytes →
    drop (start - 1) (set bytes (start - 1) digit) ≡ digit ∷ drop start bytes
digit_in_front bytes start digit some within =
    let inside : start - 1 < length bytes = omega arith in
    let e : start - 1 + 1 ≡ start = omega arith in
    drop-set bytes (start - 1) digit inside ∙ ap (λ n. digit ∷ drop n bytes) e

-- ---- two decimal digits at a time
-- a number of three digits or more has three places left
pub three_places : (left start : ℕ) → 100 ≤ left → left < 10 ^ start → 1 ≤ start → 3 ≤ start
three_places left start high fits some =
    let two : 2 ≤ start = two_places 10 left start (omega (arith, high)) fits some in
    let tens : 10 ≤ left / 10 = omega (arith, high) in
    let more : 2 ≤ start - 1 = two_places 10 (left / 10) (start - 1) tens (quotient_fits 10 left start (omega arith) some fits) (omega (arith, two)) in
    omega (arith, more)

-- without its two lowest digits it has two places fewer
pub pair_fits : (left start : ℕ) → 100 ≤ left → 3 ≤ start → left < 10 ^ start → left / 100 < 10 ^ (start - 2)
pair_fits left start high places fits =
    let one : left / 10 < 10 ^ (start - 1) = quotient_fits 10 left start (omega arith) (omega (arith, places)) fits in
    let two : left / 10 / 10 < 10 ^ (start - 1 - 1) = quotient_fits 10 (left / 10) (start - 1) (omega arith) (omega (arith, places)) one in
    let e : start - 1 - 1 ≡ start - 2 = omega arith in
    subst (λ n. left / 100 < 10 ^ n) e (subst (λ q. q < 10 ^ (start - 1 - 1)) (div-div-eq-div-mul left 10 10) two)

-- two digits that are not the last
pub two_more : (places left : ℕ) (after : List ℕ) → 100 ≤ left → 3 ≤ places
    → digits_before (places - 2) 10 (left / 100) (digit_glyph false (left / 10 % 10) ∷ digit_glyph false (left % 10) ∷ after) ≡ digits_before places 10 left after
two_more places left after high room =
    let lowest : List ℕ = digit_glyph false (left % 10) ∷ after in
    let both : List ℕ = digit_glyph false (left / 10 % 10) ∷ lowest in
    let e : places - 2 ≡ places - 1 - 1 = omega arith in
    let tens : 10 ≤ left / 10 = omega (arith, high) in
    ap (λ n. digits_before n 10 (left / 100) both) e
    ∙ (ap (λ q. digits_before (places - 1 - 1) 10 q both) (sym (div-div-eq-div-mul left 10 10))
    ∙ (more_digits (places - 1) 10 (left / 10) lowest (omega arith) tens (omega (arith, room))
    ∙ more_digits places 10 left after (omega arith) (omega (arith, high)) (omega (arith, room))))

-- the last two digits
pub last_two : (places left : ℕ) (after : List ℕ) → 10 ≤ left → left < 100 → 2 ≤ places
    → digit_glyph false (left / 10) ∷ digit_glyph false (left % 10) ∷ after ≡ digits_before places 10 left after
last_two places left after high low room =
    last_digit (places - 1) 10 (left / 10) (digit_glyph false (left % 10) ∷ after) (omega (arith, low)) (omega (arith, room))
    ∙ more_digits places 10 left after (omega arith) high (omega (arith, room))

-- two digits in front of those that are there
pub pair_in_front : (bytes : List ℕ) (start digit lower : ℕ) → 2 ≤ start → start ≤ length bytes
    → drop (start - 2) (set (set bytes (start - 2 + 1) lower) (start - 2) digit) ≡ digit ∷ lower ∷ drop start bytes
pair_in_front bytes start digit lower some within =
    let second : start - 2 + 1 ≡ start - 1 = omega (arith, some) in
    let first : start - 2 ≡ start - 1 - 1 = omega arith in
    let one : List ℕ = set bytes (start - 1) lower in
    let long : length one ≡ length bytes = length-set bytes (start - 1) lower in
    ap (λ n. drop (start - 2) (set (set bytes n lower) (start - 2) digit)) second
    ∙ (ap (λ n. drop n (set one n digit)) first
    ∙ (digit_in_front one (start - 1) digit (omega (arith, some)) (omega (arith, long, within))
    ∙ ap (λ xs. digit ∷ xs) (digit_in_front bytes start lower (omega (arith, some)) within)))

-- ---- numbers of one to three digits
pub one_digit : (n : ℕ) → n < 10 → decimal n ≡ digit_glyph false n ∷ []
one_digit n low = sym (last_digit 20 10 n [] low (omega arith) ∙ all_digits 10 n)

pub two_digits : (n : ℕ) → 10 ≤ n → n / 10 < 10 → decimal n ≡ digit_glyph false (n / 10) ∷ digit_glyph false (n % 10) ∷ []
two_digits n high low = sym (last_digit 19 10 (n / 10) (digit_glyph false (n % 10) ∷ []) low (omega arith) ∙ (more_digits 20 10 n [] (omega arith) high (omega arith) ∙ all_digits 10 n))

pub three_digits : (n : ℕ) → 10 ≤ n → 10 ≤ n / 10 → n / 10 / 10 < 10 → decimal n ≡ digit_glyph false (n / 10 / 10) ∷ digit_glyph false (n / 10 % 10) ∷ digit_glyph false (n % 10) ∷ []
three_digits n some more low =
    sym (last_digit 18 10 (n / 10 / 10) (digit_glyph false (n / 10 % 10) ∷ digit_glyph false (n % 10) ∷ []) low (omega arith)
    ∙ (more_digits 19 10 (n / 10) (digit_glyph false (n % 10) ∷ []) (omega arith) more (omega arith)
    ∙ (more_digits 20 10 n [] (omega arith) some (omega arith) ∙ all_digits 10 n)))
