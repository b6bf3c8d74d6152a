-- What the readers of words give is what the definitions of words say.
use Rattle.std.proofs.Common.{◌≡◌, ◌≢◌, ◌⊎◌, ◌<◌, ◌≤◌, ◌+◌, ◌*◌, ◌^◌, ◌∷◌, ◌∙◌, ◌&&◌, ◌||◌, ◌==◌, ℕ, Bool, true, false, not, cond, List, [], Option, Some, None, length, map, refl, sym, ap, subst, inl, inr, ⊎_elim, arith, nat_lt}
use Prim.Native.Nat.{zero, suc}
use Rattle.std.specs.Option.{option_map, option_and_then}
use Rattle.std.proofs.Math.Nat.{pow-le-pow_right}
use Rattle.std.proofs.lemmas.Bool.Decides.{nat_tests}
use Rattle.std.proofs.lemmas.Bool.{cases_lt}
use Rattle.sf_base.specs.Word.{spelled, digit_character, character_digit, text_digits, AllBelow, SpellsHexadecimal, SpellsDecimal, hexadecimal, decimal_number}
use Rattle.sf_base.proofs.Spelling.{tested, chosen, some_is, not_less, less_test, less_holds, character_below, character_is, digit_is}
use Rattle.sf_base.proofs.Behind.{nothing_left}

record Parts (base : ℕ) (first : Option ℕ) (found : Option (List ℕ)) (digits : List ℕ) : Type 0 where
  digit : ℕ
  rest : List ℕ
  is : first ≡ Some digit
  below : digit < base
  behind : found ≡ Some rest
  all : digits ≡ digit ∷ rest

parts : (base : ℕ) (first : Option ℕ) (found : Option (List ℕ)) (digits : List ℕ)
    → option_and_then (λ d. cond (nat_lt d base) (option_map (λ ds. d ∷ ds) found) None) first ≡ Some digits → Parts base first found digits
parts base None found digits h = absurd (cc)
parts base (Some d) None digits h = let c = chosen (nat_lt d base) None digits h in let n = c.1 in absurd (cc)
parts base (Some d) (Some rest) digits h =
    let c = chosen (nat_lt d base) (Some (d ∷ rest)) digits h in
    record { digit = d; rest = rest; is = refl; below = less_holds d base c.0; behind = refl; all = sym (some_is (d ∷ rest) digits c.1) }

record Spelled (base : ℕ) (text digits : List ℕ) : Type 0 where
  pub text_is : text ≡ map digit_character digits
  pub below : AllBelow base digits
  pub long : length digits ≡ length text

-- the digits of a text spell it
text_spelled : (base : ℕ) (text digits : List ℕ) → text_digits base text ≡ Some digits → Spelled base text digits
text_spelled base [] digits h =
    let P : List ℕ → Type 0 = λ ds. Spelled base [] ds in
    subst P (some_is [] digits h) (record { text_is = refl; below = tt; long = refl })
text_spelled base (c ∷ text) digits h =
    let p = parts base (character_digit c) (text_digits base text) digits h in
    let rest = text_spelled base text p.rest p.behind in
    let char = character_is c p.digit p.is in
    let P : List ℕ → Type 0 = λ ds. Spelled base (c ∷ text) ds in
    let same : c ∷ text ≡ digit_character p.digit ∷ map digit_character p.rest = (let e = char.1 in let f = rest.text_is in cc) in
    subst P (sym p.all) (record { text_is = same; below = (p.below, rest.below); long = ap (λ n. suc n) rest.long })

-- digits that are spelled are read
digits_read : (base : ℕ) (digits : List ℕ) → base ≤ 16 → AllBelow base digits → text_digits base (map digit_character digits) ≡ Some digits
digits_read base [] small below = refl
digits_read base (d ∷ digits) small below =
    let less : d < base = below.0 in
    let fits : d < 16 = omega arith in
    let rest = digits_read base digits small below.1 in
    ap (λ o. option_and_then (λ x. cond (nat_lt x base) (option_map (λ ds. x ∷ ds) (text_digits base (map digit_character digits))) None) o) (digit_is d fits)
    ∙ (ap (λ b. cond b (option_map (λ ds. d ∷ ds) (text_digits base (map digit_character digits))) None) (less_test d base less)
    ∙ ap (λ o. option_map (λ ds. d ∷ ds) o) rest)

mapped : {A : Type 0} (f : A → ℕ) (o : Option A) (n : ℕ) → option_map f o ≡ Some n → (x : A) × ((o ≡ Some x) × (n ≡ f x))
mapped f None n h = absurd (cc)
mapped f (Some x) n h = (x, (refl, sym (some_is (f x) n h)))

neither : (a b : Bool) → (a || b) ≡ false → (a ≡ false) × (b ≡ false)
neither true b h = absurd (cc)
neither false b h = (refl, h)

holds : (a : Bool) → not a ≡ false → a ≡ true
holds true h = refl
holds false h = absurd (cc)

same_number : (m n : ℕ) → (m == n) ≡ true → m ≡ n
same_number m n h = grind (arith, nat_tests)

differ : (m n : ℕ) → m ≢ n → (m == n) ≡ false
differ m n h = grind (arith, nat_tests)

never : (b : Bool) → (b && false) ≡ false
never true = refl
never false = refl

no_less : (m n : ℕ) → nat_lt m n ≡ false → n ≤ m
no_less m n h = grind (arith, nat_tests)

length_spelled : (digits : List ℕ) → length (map digit_character digits) ≡ length digits
length_spelled [] = refl
length_spelled (d ∷ digits) = ap (λ n. suc n) (length_spelled digits)

pub hexadecimal_found : (text : List ℕ) (number : ℕ) → hexadecimal text ≡ Some number → SpellsHexadecimal text number
unfolding hexadecimal
hexadecimal_found [] number h = absurd (cc)
hexadecimal_found (a ∷ []) number h = absurd (cc)
hexadecimal_found (a ∷ b ∷ rest) number h =
    let one = tested (nat_lt (suc (suc (length rest))) 3 || nat_lt 18 (suc (suc (length rest)))) _ number h in
    let two = tested (not (a == 48) || not (b == 120)) _ number one.1 in
    let long = neither (nat_lt (suc (suc (length rest))) 3) (nat_lt 18 (suc (suc (length rest)))) one.0 in
    let prefix = neither (not (a == 48)) (not (b == 120)) two.0 in
    let digits = mapped (spelled 16) (text_digits 16 rest) number two.1 in
    let text = text_spelled 16 rest digits.0 digits.1.0 in
    let low : 3 ≤ suc (suc (length rest)) = no_less (suc (suc (length rest))) 3 long.0 in
    let high : suc (suc (length rest)) ≤ 18 = no_less 18 (suc (suc (length rest))) long.1 in
    let first : a ≡ 48 = same_number a 48 (holds (a == 48) prefix.0) in
    let second : b ≡ 120 = same_number b 120 (holds (b == 120) prefix.1) in
    let same : length digits.0 ≡ length rest = text.long in
    let whole : rest ≡ map digit_character digits.0 = text.text_is in
    (digits.0, record { text_is = cc; below = text.below; some = omega arith; at_most = omega arith; value = digits.1.1 })

within : (low high n : ℕ) → low ≤ n → n ≤ high → (nat_lt n low || nat_lt high n) ≡ false
within low high n l h = ap (λ b. b || nat_lt high n) (not_less n low l) ∙ not_less high n h

pub hexadecimal_read : (text : List ℕ) (number : ℕ) → SpellsHexadecimal text number → hexadecimal text ≡ Some number
unfolding hexadecimal
hexadecimal_read text number spells =
    let digits = spells.0 in
    let word = spells.1 in
    let long : length (map digit_character digits) ≡ length digits = length_spelled digits in
    let low : 1 ≤ length digits = word.some in
    let high : length digits ≤ 16 = word.at_most in
    let fits : (nat_lt (suc (suc (length (map digit_character digits)))) 3 || nat_lt 18 (suc (suc (length (map digit_character digits))))) ≡ false
    = within 3 18 (suc (suc (length (map digit_character digits)))) (omega arith) (omega arith) in
    let P : List ℕ → Type 0 = λ t. hexadecimal t ≡ Some number in
    subst P (sym word.text_is)
    (ap (λ b. cond b None (option_map (spelled 16) (text_digits 16 (map digit_character digits)))) fits
    ∙ (ap (λ o. option_map (spelled 16) o) (digits_read 16 digits (omega arith) word.below) ∙ ap (λ n. Some n) (sym word.value)))

capped : (o : Option ℕ) (number : ℕ) → option_and_then (λ n. cond (nat_lt n (2 ^ 32)) (Some n) None) o ≡ Some number → (o ≡ Some number) × (number < 2 ^ 32)
capped None number h = absurd (cc)
capped (Some n) number h =
    let c = chosen (nat_lt n (2 ^ 32)) (Some n) number h in
    let e : n ≡ number = some_is n number c.1 in
    let less : n < 2 ^ 32 = less_holds n (2 ^ 32) c.0 in
    (c.1, omega arith)

-- a first digit 0 is the only one
alone : (c first : ℕ) (rest digits : List ℕ) → ((c == 48) && nat_lt 1 (suc (length rest))) ≡ false → c ≡ digit_character first → length digits ≡ length rest → (first ≢ 0) ⊎ (digits ≡ [])
alone c (suc first) rest digits test is long = inl (λ e. absurd (omega arith))
alone c zero rest digits test is long =
    let same : c ≡ 48 = is in
    let P : ℕ → Type 0 = λ n. ((n == 48) && nat_lt 1 (suc (length rest))) ≡ false in
    let short : nat_lt 1 (suc (length rest)) ≡ false = subst P same test in
    let few : suc (length rest) ≤ 1 = no_less 1 (suc (length rest)) short in
    inr (nothing_left digits (omega arith))

decimal_parts : (c : ℕ) (rest digits : List ℕ) (number : ℕ) → ((c == 48) && nat_lt 1 (suc (length rest))) ≡ false → Spelled 10 (c ∷ rest) digits → number ≡ spelled 10 digits → number < 2 ^ 32 → SpellsDecimal (c ∷ rest) number
decimal_parts c rest [] number test text value fits = let e = text.text_is in absurd (cc)
decimal_parts c rest (first ∷ digits) number test text value fits =
    let e = text.text_is in
    let is : c ≡ digit_character first = cc in
    let same = text.long in
    let long : length digits ≡ length rest = omega arith in
    (first, (digits, record { text_is = text.text_is; below = text.below; no_zero = alone c first rest digits test is long; value = value; fits = fits }))

pub decimal_found : (text : List ℕ) (number : ℕ) → decimal_number text ≡ Some number → SpellsDecimal text number
unfolding decimal_number
decimal_found [] number h = absurd (cc)
decimal_found (c ∷ rest) number h =
    let one = tested (nat_lt (suc (length rest)) 1 || nat_lt 10 (suc (length rest))) _ number h in
    let two = tested ((c == 48) && nat_lt 1 (suc (length rest))) _ number one.1 in
    let cap = capped (option_map (spelled 10) (text_digits 10 (c ∷ rest))) number two.1 in
    let digits = mapped (spelled 10) (text_digits 10 (c ∷ rest)) number cap.0 in
    decimal_parts c rest digits.0 number two.0 (text_spelled 10 (c ∷ rest) digits.0 digits.1.0) digits.1.1 cap.1

-- a number below 2^32 has at most ten digits, if the first is not 0
few_digits : (first : ℕ) (digits : List ℕ) (number : ℕ) → number ≡ spelled 10 (first ∷ digits) → number < 2 ^ 32 → first ≢ 0 → length digits ≤ 9
few_digits zero digits number value fits some = absurd (some refl)
few_digits (suc first) digits number value fits some = ⊎_elim (λ less. omega arith)
    (λ many.
    let power : 10 ^ 10 ≤ 10 ^ length digits = pow-le-pow_right {n = 10} (omega arith) many in
    let once : 10 ^ length digits ≤ suc first * 10 ^ length digits = omega arith in
    absurd (omega arith))
    (cases_lt (length digits) 10)

not_leading : (first : ℕ) (digits : List ℕ) → first < 10 → (first ≢ 0) ⊎ (digits ≡ []) → ((digit_character first == 48) && nat_lt 1 (suc (length (map digit_character digits)))) ≡ false
not_leading first digits below (inl some) =
    let c : digit_character first ≡ 48 + first = character_below first below in
    let apart : digit_character first ≢ 48 = (λ e. some (omega arith)) in
    ap (λ b. b && nat_lt 1 (suc (length (map digit_character digits)))) (differ (digit_character first) 48 apart)
not_leading first digits below (inr none) =
    let P : List ℕ → Type 0 = λ ds. ((digit_character first == 48) && nat_lt 1 (suc (length (map digit_character ds)))) ≡ false in
    subst P (sym none) (never (digit_character first == 48))

at_most_ten : (first : ℕ) (digits : List ℕ) (number : ℕ) → number ≡ spelled 10 (first ∷ digits) → number < 2 ^ 32 → (first ≢ 0) ⊎ (digits ≡ []) → length digits ≤ 9
at_most_ten first digits number value fits (inl some) = few_digits first digits number value fits some
at_most_ten first digits number value fits (inr none) = let e : length digits ≡ 0 = ap (λ ds. length ds) none in omega arith

pub decimal_read : (text : List ℕ) (number : ℕ) → SpellsDecimal text number → decimal_number text ≡ Some number
unfolding decimal_number
decimal_read text number spells =
    let first = spells.0 in
    let digits = spells.1.0 in
    let word = spells.1.1 in
    let long : length (map digit_character digits) ≡ length digits = length_spelled digits in
    let few : length digits ≤ 9 = at_most_ten first digits number word.value word.fits word.no_zero in
    let fits : (nat_lt (suc (length (map digit_character digits))) 1 || nat_lt 10 (suc (length (map digit_character digits)))) ≡ false
    = within 1 10 (suc (length (map digit_character digits))) (omega arith) (omega arith) in
    let P : List ℕ → Type 0 = λ t. decimal_number t ≡ Some number in
    let read : option_map (spelled 10) (text_digits 10 (map digit_character (first ∷ digits))) ≡ Some number
    = ap (λ o. option_map (spelled 10) o) (digits_read 10 (first ∷ digits) (omega arith) word.below) ∙ ap (λ n. Some n) (sym word.value) in
    let cap : ℕ → Option ℕ = λ n. cond (nat_lt n (2 ^ 32)) (Some n) None in
    let all = option_and_then cap (option_map (spelled 10) (text_digits 10 (map digit_character (first ∷ digits)))) in
    subst P (sym word.text_is)
    (ap (λ b. cond b None (cond ((digit_character first == 48) && nat_lt 1 (suc (length (map digit_character digits)))) None all)) fits
    ∙ (ap (λ b. cond b None all) (not_leading first digits word.below.0 word.no_zero)
    ∙ (ap (λ o. option_and_then cap o) read ∙ ap (λ b. cond b (Some number) None) (less_test number (2 ^ 32) word.fits))))
