-- Numbers as words on a command line.
use Rattle.std.specs.Prelude.{◌≡◌, ◌≢◌, ◌⊎◌, ◌<◌, ◌≤◌, ◌+◌, ◌-◌, ◌*◌, ◌^◌, ◌&&◌, ℕ, List, [], ◌∷◌, map, length, ⊤, Option, not, ◌==◌, ◌||◌, slice_index, drop, Some, None, nat_lt, nat_le, if◌then◌else◌}
use Rattle.std.specs.Option.{option_and_then, option_map}

-- the number that these digits spell in a base, from the greatest: each counts the base to the power of the number of digits after it
abbrev pub spelled : ℕ → List ℕ → ℕ
spelled base [] = 0
spelled base (digit ∷ digits) = digit * base ^ length digits + spelled base digits

-- the character of a digit below 16: `0` to `9`, and then `a` to `f`
abbrev pub digit_character : ℕ → ℕ
digit_character digit = if nat_lt digit 10 then 48 + digit else 87 + digit

-- each digit is below the base
abbrev pub AllBelow : ℕ → List ℕ → Type 0
AllBelow base [] = ⊤
AllBelow base (digit ∷ digits) = (digit < base) × AllBelow base digits

-- the text is `0x` and 1 to 16 lower-case digits of base 16, which spell the number
pub record IsHexadecimal (text : List ℕ) (number : ℕ) (digits : List ℕ) : Type 0 where
  pub text_is : text ≡ 48 ∷ 120 ∷ map digit_character digits
  pub below : AllBelow 16 digits
  pub some : 1 ≤ length digits
  pub at_most : length digits ≤ 16
  pub value : number ≡ spelled 16 digits

-- the text is the number below 2^32 in decimal digits: without sign, and without a zero in front of other digits
pub record IsDecimal (text : List ℕ) (number : ℕ) (first : ℕ) (digits : List ℕ) : Type 0 where
  pub text_is : text ≡ map digit_character (first ∷ digits)
  pub below : AllBelow 10 (first ∷ digits)
  pub no_zero : (first ≢ 0) ⊎ (digits ≡ [])
  pub value : number ≡ spelled 10 (first ∷ digits)
  pub fits : number < 2 ^ 32

-- the text spells the number as `0x` and digits of base 16
abbrev pub SpellsHexadecimal : List ℕ → ℕ → Type 0
SpellsHexadecimal text number = (digits : List ℕ) × IsHexadecimal text number digits

-- the text spells the number as a decimal below 2^32
abbrev pub SpellsDecimal : List ℕ → ℕ → Type 0
SpellsDecimal text number = (first : ℕ) × ((digits : List ℕ) × IsDecimal text number first digits)

-- ---- Inside the crate
-- the digit below 16 that a character is
abbrev pub character_digit : ℕ → Option ℕ
character_digit c =
    if nat_le 48 c && nat_le c 57 then Some (c - 48) else (if nat_le 97 c && nat_le c 102 then Some (c - 87) else None)

-- the digits below the base that a text consists of, if each of its characters is one
abbrev pub text_digits : ℕ → List ℕ → Option (List ℕ)
text_digits base [] = Some []
text_digits base (c ∷ text) =
    option_and_then (λ digit. if nat_lt digit base then option_map (λ digits. digit ∷ digits) (text_digits base text) else None) (character_digit c)

-- the number that a word in base 16 spells, or none for any other text
unfoldable pub hexadecimal : List ℕ → Option ℕ
hexadecimal text =
    if nat_lt (length text) 3 || nat_lt 18 (length text) then None
    else (if not (slice_index text 0 == 48) || not (slice_index text 1 == 120) then None
    else option_map (spelled 16) (text_digits 16 (drop 2 text)))

-- the number that a word in decimal digits spells, or none for any other text
unfoldable pub decimal_number : List ℕ → Option ℕ
decimal_number text =
    if nat_lt (length text) 1 || nat_lt 10 (length text) then None
    else (if slice_index text 0 == 48 && nat_lt 1 (length text) then None
    else option_and_then (λ number. if nat_lt number (2 ^ 32) then Some number else None) (option_map (spelled 10) (text_digits 10 text)))
