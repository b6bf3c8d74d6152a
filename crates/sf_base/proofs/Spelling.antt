-- Digits and the numbers that they spell.
use Rattle.std.proofs.Common.{◌≡◌, ◌⊎◌, ◌<◌, ◌≤◌, ◌+◌, ◌-◌, ◌*◌, ◌^◌, ◌∷◌, ◌∙◌, ℕ, Bool, true, false, cond, List, Option, Some, None, length, refl, ap, inl, inr, ⊎_elim, arith, ◌&&◌, nat_lt, nat_le}
use Prim.Native.Nat.{suc}
use Rattle.std.specs.Option.{option_map, option_and_then}
use Rattle.std.proofs.Math.Nat.{pow-le-pow_right, mul-le-mul_left}
use Rattle.std.proofs.lemmas.Grind.{pow_more}
use Rattle.std.proofs.lemmas.Bool.Decides.{nat_tests}
use Rattle.std.proofs.lemmas.Bool.{cases_lt}
use Rattle.sf_base.specs.Word.{spelled, digit_character, character_digit, text_digits}

-- the number that digits spell after those of a number
abbrev pub continued : ℕ → ℕ → List ℕ → ℕ
continued base number digits = number * base ^ length digits + spelled base digits

digit_more : (base number digit : ℕ) (digits : List ℕ) → continued base number (digit ∷ digits) ≡ continued base (number * base + digit) digits
digit_more base number digit digits =
    let p : base ^ (length digits + 1) ≡ base ^ length digits * base = pow_more base (length digits) in
    let e : suc (length digits) ≡ length digits + 1 = omega arith in
    ap (λ k. number * base ^ k + (digit * base ^ length digits + spelled base digits)) e
    ∙ (ap (λ q. number * q + (digit * base ^ length digits + spelled base digits)) p ∙ omega arith)

pub digits_more : (base number digit : ℕ) (found : Option (List ℕ)) → option_map (continued base number) (option_map (λ digits. digit ∷ digits) found) ≡ option_map (continued base (number * base + digit)) found
digits_more base number digit None = refl
digits_more base number digit (Some digits) = ap (λ n. Some n) (digit_more base number digit digits)

pub from_zero : (base : ℕ) (found : Option (List ℕ)) → option_map (continued base 0) found ≡ option_map (spelled base) found
from_zero base None = refl
from_zero base (Some digits) = let e : 0 * base ^ length digits + spelled base digits ≡ spelled base digits = omega arith in ap (λ n. Some n) e

pub still_fits : (base number digit i : ℕ) → number < 16 ^ i → digit < base → base ≤ 16 → number * base + digit < 16 ^ (i + 1)
still_fits base number digit i fits below small =
    let less : number + 1 ≤ 16 ^ i = omega arith in
    let wider : base * (number + 1) ≤ base * 16 ^ i = mul-le-mul_left base less in
    let most : 16 ^ i * base ≤ 16 ^ i * 16 = mul-le-mul_left (16 ^ i) small in
    let power : 16 ^ (i + 1) ≡ 16 ^ i * 16 = pow_more 16 i in
    omega arith

pub fits_word : (number i : ℕ) → number < 16 ^ i → i ≤ 16 → number < 2 ^ 64
fits_word number i fits short = let p : 16 ^ i ≤ 16 ^ 16 = pow-le-pow_right {n = 16} (omega arith) short in omega arith

pub less_test : (m n : ℕ) → m < n → nat_lt m n ≡ true
less_test m n h = grind (arith, nat_tests)

pub less_holds : (m n : ℕ) → nat_lt m n ≡ true → m < n
less_holds m n h = grind (arith, nat_tests)

-- one more character
pub digits_step : (base number digit c : ℕ) (text : List ℕ) → character_digit c ≡ Some digit → digit < base
    → option_map (continued base number) (text_digits base (c ∷ text)) ≡ option_map (continued base (number * base + digit)) (text_digits base text)
digits_step base number digit c text is below =
    let e : text_digits base (c ∷ text) ≡ option_map (λ digits. digit ∷ digits) (text_digits base text)
    = ap (λ o. option_and_then (λ d. cond (nat_lt d base) (option_map (λ digits. d ∷ digits) (text_digits base text)) None) o) is
    ∙ ap (λ b. cond b (option_map (λ digits. digit ∷ digits) (text_digits base text)) None) (less_test digit base below) in
    ap (λ o. option_map (continued base number) o) e ∙ digits_more base number digit (text_digits base text)

pub tested : {A : Type 0} (b : Bool) (x : Option A) (a : A) → cond b None x ≡ Some a → (b ≡ false) × (x ≡ Some a)
tested true x a h = absurd (cc)
tested false x a h = (refl, h)

pub chosen : {A : Type 0} (b : Bool) (x : Option A) (a : A) → cond b x None ≡ Some a → (b ≡ true) × (x ≡ Some a)
chosen true x a h = (refl, h)
chosen false x a h = absurd (cc)

pub some_is : {A : Type 0} (x y : A) → Some x ≡ Some y → x ≡ y
some_is x y h = cc

pub character_below : (digit : ℕ) → digit < 10 → digit_character digit ≡ 48 + digit
character_below digit h = ap (λ b. cond b (48 + digit) (87 + digit)) (less_test digit 10 h)

pub not_less : (m n : ℕ) → n ≤ m → nat_lt m n ≡ false
not_less m n h = grind (arith, nat_tests)

character_above : (digit : ℕ) → 10 ≤ digit → digit_character digit ≡ 87 + digit
character_above digit h = ap (λ b. cond b (48 + digit) (87 + digit)) (not_less digit 10 h)

between : (low high c : ℕ) → (nat_le low c && nat_le c high) ≡ true → (low ≤ c) × (c ≤ high)
between low high c h = (grind (arith, nat_tests), grind (arith, nat_tests))

inside : (low high c : ℕ) → low ≤ c → c ≤ high → (nat_le low c && nat_le c high) ≡ true
inside low high c l h = grind (arith, nat_tests)

outside : (low high c : ℕ) → (c < low) ⊎ (high < c) → (nat_le low c && nat_le c high) ≡ false
outside low high c (inl l) = grind (arith, nat_tests)
outside low high c (inr h) = grind (arith, nat_tests)

digit_found : (c digit : ℕ) (decimal letter : Bool) → ((decimal ≡ true) → (48 ≤ c) × (c ≤ 57)) → ((letter ≡ true) → (97 ≤ c) × (c ≤ 102))
    → cond decimal (Some (c - 48)) (cond letter (Some (c - 87)) None) ≡ Some digit → (digit < 16) × (digit_character digit ≡ c)
digit_found c digit true letter d l h =
    let e : c - 48 ≡ digit = some_is (c - 48) digit h in
    let low : 48 ≤ c = (d refl).0 in
    let high : c ≤ 57 = (d refl).1 in
    let small : digit < 10 = omega arith in
    let same : 48 + digit ≡ c = omega arith in
    (omega arith, character_below digit small ∙ same)
digit_found c digit false true d l h =
    let e : c - 87 ≡ digit = some_is (c - 87) digit h in
    let low : 97 ≤ c = (l refl).0 in
    let high : c ≤ 102 = (l refl).1 in
    let large : 10 ≤ digit = omega arith in
    let same : 87 + digit ≡ c = omega arith in
    (omega arith, character_above digit large ∙ same)
digit_found c digit false false d l h = absurd (cc)

pub character_is : (c digit : ℕ) → character_digit c ≡ Some digit → (digit < 16) × (digit_character digit ≡ c)
character_is c digit h = digit_found c digit (nat_le 48 c && nat_le c 57) (nat_le 97 c && nat_le c 102) (between 48 57 c) (between 97 102 c) h

pub digit_is : (digit : ℕ) → digit < 16 → character_digit (digit_character digit) ≡ Some digit
digit_is digit below = ⊎_elim
    (λ small.
    let low : 48 ≤ 48 + digit = omega arith in
    let high : 48 + digit ≤ 57 = omega arith in
    let e : 48 + digit - 48 ≡ digit = omega arith in
    ap (λ c. character_digit c) (character_below digit small)
    ∙ (ap (λ b. cond b (Some (48 + digit - 48)) (cond (nat_le 97 (48 + digit) && nat_le (48 + digit) 102) (Some (48 + digit - 87)) None)) (inside 48 57 (48 + digit) low high) ∙ ap (λ n. Some n) e))
    (λ large.
    let past : 57 < 87 + digit = omega arith in
    let low : 97 ≤ 87 + digit = omega arith in
    let high : 87 + digit ≤ 102 = omega arith in
    let e : 87 + digit - 87 ≡ digit = omega arith in
    ap (λ c. character_digit c) (character_above digit large)
    ∙ (ap (λ b. cond b (Some (87 + digit - 48)) (cond (nat_le 97 (87 + digit) && nat_le (87 + digit) 102) (Some (87 + digit - 87)) None)) (outside 48 57 (87 + digit) (inr past))
    ∙ (ap (λ b. cond b (Some (87 + digit - 87)) None) (inside 97 102 (87 + digit) low high) ∙ ap (λ n. Some n) e)))
    (cases_lt digit 10)
