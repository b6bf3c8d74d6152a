-- The pieces of a file whose bits are 0, by the masks.
use Rattle.std.proofs.Common.{◌≡◌, ℕ, List, length, ◌+◌, ◌-◌, ◌*◌, ◌/◌, ◌%◌, ◌^◌, ◌<◌, ◌≤◌, get_or, inl, inr, sym, ap, ◌∙◌, arith, w64}
use Rattle.std.specs.Int.{bit_at, trailing_zeros}
use Rattle.std.proofs.lemmas.Nat.{mul-le, shr-shr}
use Rattle.std.proofs.lemmas.Nat.Bits.{bit_at-trailing_zeros, bit_at-zero, bit_at_above}
use Rattle.std.proofs.lemmas.Bool.{cases_lt}
use Rattle.elf_read.specs.Masks.{IsClear}

-- the bits of a mask from one on are those of the mask
bits_from : (mask from j : ℕ) → bit_at (mask / 2 ^ from) j ≡ bit_at mask (from + j)
bits_from mask from j = ap (λ (m : ℕ). m % 2) (shr-shr mask from j)

-- no bit is set from 64 on
upto_64 : (mask from n : ℕ) → mask < 2 ^ 64 → bit_at (mask / 2 ^ from) n ≡ 1 → from + n < 64
upto_64 mask from n small set = elim (cases_lt (from + n) 64) [
  | inl below ↦ below
  | inr past ↦ let none : bit_at mask (from + n) ≡ 0 = bit_at_above mask 64 (from + n) small past in absurd (omega (arith, none, set, bits_from mask from n))
]

-- the lowest bit from one on is the mask's
lowest_within : (mask from : ℕ) → mask < 2 ^ 64 → 0 < mask / 2 ^ from → mask / 2 ^ from < 2 ^ 64 → from + trailing_zeros w64 (mask / 2 ^ from) < 64
lowest_within mask from small some rest_small =
    let lowest = bit_at-trailing_zeros w64 (mask / 2 ^ from) some rest_small in
    upto_64 mask from (trailing_zeros w64 (mask / 2 ^ from)) small lowest.1

-- a piece is past the first one by far less than the places of a file are past each other
pub next_place : (piece len next : ℕ) → next ≤ piece + 65536 → len ≤ 2 ^ 32 → piece * len < 2 ^ 61 → next * len < 2 ^ 62
next_place piece len next within small low =
    let most : next * len ≤ (piece + 65536) * len = mul-le next len (piece + 65536) len within (omega arith) in
    let sum : (piece + 65536) * len ≡ piece * len + 65536 * len = omega arith in
    omega (arith, most, sum, small, low)

-- pieces from one on in its mask
clear_bits : (masks : List ℕ) (piece n before : ℕ) → piece / 64 < length masks → piece % 64 + n ≤ 64
    → ((j : ℕ) → j < n → bit_at (get_or masks (piece / 64) 0 / 2 ^ (piece % 64)) j ≡ 0) → piece ≤ before → before < piece + n → IsClear masks before
clear_bits masks piece n before within upto clear low below =
    let mask = get_or masks (piece / 64) 0 in
    let part : before / 64 ≡ piece / 64 = omega (arith, upto, low, below) in
    let bit : before % 64 ≡ piece % 64 + (before - piece) = omega (arith, upto, low, below) in
    let same : bit_at (get_or masks (before / 64) 0) (before % 64) ≡ bit_at mask (piece % 64 + (before - piece)) = (λ i. bit_at (get_or masks (part i) 0) (bit i)) in
    (omega (arith, part, within), same ∙ sym (bits_from mask (piece % 64) (before - piece)) ∙ clear (before - piece) (omega (arith, low, below)))

-- up to the lowest bit
pub clear_upto_lowest : (masks : List ℕ) (piece before : ℕ) → piece / 64 < length masks → get_or masks (piece / 64) 0 < 2 ^ 64
    → 0 < get_or masks (piece / 64) 0 / 2 ^ (piece % 64) → get_or masks (piece / 64) 0 / 2 ^ (piece % 64) < 2 ^ 64
    → piece ≤ before → before < piece + trailing_zeros w64 (get_or masks (piece / 64) 0 / 2 ^ (piece % 64)) → IsClear masks before
clear_upto_lowest masks piece before within small some rest_small =
    let mask = get_or masks (piece / 64) 0 in
    let lowest = bit_at-trailing_zeros w64 (mask / 2 ^ (piece % 64)) some rest_small in
    let upto : piece % 64 + trailing_zeros w64 (mask / 2 ^ (piece % 64)) < 64 = lowest_within mask (piece % 64) small some rest_small in
    clear_bits masks piece (trailing_zeros w64 (mask / 2 ^ (piece % 64))) before within (omega (arith, upto)) lowest.2

-- up to the next mask
pub clear_upto_next : (masks : List ℕ) (piece before : ℕ) → piece / 64 < length masks → get_or masks (piece / 64) 0 / 2 ^ (piece % 64) ≡ 0
    → piece ≤ before → before < (piece / 64 + 1) * 64 → IsClear masks before
clear_upto_next masks piece before within none low below =
    clear_bits masks piece (64 - piece % 64) before within (omega arith) (λ j _. ap (λ (m : ℕ). bit_at m j) none ∙ bit_at-zero j) low (omega (arith, below))

-- the pieces of a mask that is 0
pub clear_mask : (masks : List ℕ) (at piece : ℕ) → at < length masks → get_or masks at 0 ≡ 0 → at * 64 ≤ piece → piece < (at + 1) * 64 → IsClear masks piece
clear_mask masks at piece within none low below =
    let part : piece / 64 ≡ at = omega (arith, low, below) in
    (omega (arith, part, within), ap (λ (n : ℕ). bit_at (get_or masks n 0) (piece % 64)) part ∙ ap (λ (m : ℕ). bit_at m (piece % 64)) none ∙ bit_at-zero (piece % 64))

-- the pieces of a mask below its lowest bit
pub clear_below : (masks : List ℕ) (at piece : ℕ) → at < length masks → 0 < get_or masks at 0 → get_or masks at 0 < 2 ^ 64
    → at * 64 ≤ piece → piece < at * 64 + trailing_zeros w64 (get_or masks at 0) → IsClear masks piece
clear_below masks at piece within some small low below =
    let lowest = bit_at-trailing_zeros w64 (get_or masks at 0) some small in
    let part : piece / 64 ≡ at = omega (arith, low, below, lowest.0) in
    let bit : piece % 64 ≡ piece - at * 64 = omega (arith, low, below, lowest.0) in
    let same : bit_at (get_or masks (piece / 64) 0) (piece % 64) ≡ bit_at (get_or masks at 0) (piece - at * 64) = (λ i. bit_at (get_or masks (part i) 0) (bit i)) in
    (omega (arith, part, within), same ∙ lowest.2 (piece - at * 64) (omega (arith, low, below)))
