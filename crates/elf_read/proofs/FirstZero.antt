-- The first zero byte from a place on, by what is known from another place on.
use Rattle.std.proofs.Common.{◌≡◌, ℕ, zero, suc, ◌+◌, ◌-◌, ◌*◌, ◌/◌, ◌%◌, ◌<◌, ◌≤◌, ◌==◌, Bool, true, false, not, cond, Some, None, List, [], ◌∷◌, length, take, drop, min, nat_lt, refl, sym, ap, ◌∙◌, arith, inl, inr, lt-ltb, le-ltb}
use Rattle.std.specs.Prelude.{◌||◌}
use Rattle.std.specs.List.{list_any, position, position_or_len}
use Rattle.std.specs.Option.{unwrap_or}
use Rattle.std.proofs.lemmas.Bool.{cases_lt}
use Rattle.std.proofs.lemmas.List.{drop-drop, length-drop}
use Rattle.std.proofs.lemmas.List.Sums.{prefix_len-le-length}
use Rattle.std.proofs.lemmas.Nat.{div-add-mod'}
use Rattle.elf_read.specs.Number.{HasNoZero, has_text, zero_from}
use Rattle.elf_read.specs.Sections.{section_bytes, section_fields}
use Rattle.elf_read.proofs.Texts.{has_by, text_place}

abbrev pub is_zero : ℕ → Bool
is_zero b = b == 0

abbrev not_zero : ℕ → Bool
not_zero b = not (is_zero b)

-- how many bytes come before the first zero byte
abbrev pub before_zero : List ℕ → ℕ
before_zero xs = position_or_len is_zero xs

pub before_zero-within : (xs : List ℕ) → before_zero xs ≤ length xs
before_zero-within xs = prefix_len-le-length not_zero xs

or_all : (xs : List ℕ) (b : Bool) → nat_lt (before_zero xs) (length xs) ≡ b → unwrap_or (cond b (Some (before_zero xs)) None) (length xs) ≡ before_zero xs
or_all xs true is = refl
or_all xs false is = elim (cases_lt (before_zero xs) (length xs)) [
  | inl below ↦ absurd (cc (sym (lt-ltb _ _ below) ∙ is))
  | inr past ↦ let upto : before_zero xs ≤ length xs = before_zero-within xs in omega (arith, past, upto)
]

-- the place of the first zero byte, or else the length
pub before_zero-is : (xs : List ℕ) → unwrap_or (position is_zero xs) (length xs) ≡ before_zero xs
before_zero-is xs = or_all xs (nat_lt (before_zero xs) (length xs)) refl

taken_by : (b : Bool) (n k m : ℕ) → k ≡ min n m → cond (not b) (1 + k) 0 ≡ min (suc n) (cond (not b) (1 + m) 0)
taken_by true n k m is = omega arith
taken_by false n k m is = omega (arith, is)

-- of the first n bytes
pub before_zero-take : (n : ℕ) (xs : List ℕ) → before_zero (take n xs) ≡ min n (before_zero xs)
before_zero-take zero xs = omega arith
before_zero-take (suc n) [] = omega arith
before_zero-take (suc n) (x ∷ xs) = taken_by (is_zero x) n (before_zero (take n xs)) (before_zero xs) (before_zero-take n xs)

skipped_by : (b : Bool) (n k m : ℕ) → suc n ≤ cond (not b) (1 + m) 0 → (n ≤ m → n + k ≡ m) → suc n + k ≡ cond (not b) (1 + m) 0
skipped_by true n k m low is = absurd (omega (arith, low))
skipped_by false n k m low is = let same : n + k ≡ m = is (omega (arith, low)) in omega (arith, same)

-- past n bytes of which none is zero
pub before_zero-drop : (n : ℕ) (xs : List ℕ) → n ≤ before_zero xs → n + before_zero (drop n xs) ≡ before_zero xs
before_zero-drop zero xs low = omega arith
before_zero-drop (suc n) [] low = absurd (omega (arith, low))
before_zero-drop (suc n) (x ∷ xs) low = skipped_by (is_zero x) n (before_zero (drop n xs)) (before_zero xs) low (before_zero-drop n xs)

free_by : (b c : Bool) (n m : ℕ) → (b || c) ≡ false → (c ≡ false → n ≤ m) → suc n ≤ cond (not b) (1 + m) 0
free_by true c n m none rest = absurd (cc none)
free_by false c n m none rest = let low : n ≤ m = rest none in omega (arith, low)

-- so many bytes are none of which is zero
pub before_zero-past : (n : ℕ) (xs : List ℕ) → n ≤ length xs → list_any is_zero (take n xs) ≡ false → n ≤ before_zero xs
before_zero-past zero xs upto none = omega arith
before_zero-past (suc n) [] upto none = absurd (omega (arith, upto))
before_zero-past (suc n) (x ∷ xs) upto none = free_by (is_zero x) (list_any is_zero (take n xs)) n (before_zero xs) none (before_zero-past n xs (omega (arith, upto)))

-- a place that is not past the first zero byte has the same one
pub zero_from-later : (bytes : List ℕ) (place n : ℕ) → n ≤ before_zero (drop place bytes) → zero_from bytes (place + n) ≡ zero_from bytes place
zero_from-later bytes place n low =
    let rest : before_zero (drop (place + n) bytes) ≡ before_zero (drop n (drop place bytes)) = ap before_zero (sym (drop-drop n place bytes)) in
    let all : n + before_zero (drop n (drop place bytes)) ≡ before_zero (drop place bytes) = before_zero-drop n (drop place bytes) low in
    omega (arith, rest, all)

-- pieces without a zero byte are passed over
pub zero_from-past_pieces : (bytes : List ℕ) (len piece n : ℕ) → ((j : ℕ) → j < n → HasNoZero bytes ((piece + j) * len) len) → zero_from bytes ((piece + n) * len) ≡ zero_from bytes (piece * len)
zero_from-past_pieces bytes len piece zero free = let same : piece + 0 ≡ piece = omega arith in ap (λ (m : ℕ). zero_from bytes (m * len)) same
zero_from-past_pieces bytes len piece (suc n) free =
    let here : (piece + n) * len + len ≤ zero_from bytes ((piece + n) * len) = free n (omega arith) in
    let place : (piece + suc n) * len ≡ (piece + n) * len + len = omega arith in
    ap (zero_from bytes) place ∙ zero_from-later bytes ((piece + n) * len) len (omega (arith, here)) ∙ zero_from-past_pieces bytes len piece n (λ j below. free j (omega (arith, below)))

-- a piece that is there and has no zero byte
pub is_free : (bytes : List ℕ) (place len count : ℕ) → count ≡ before_zero (take len (drop place bytes)) → len ≤ count → HasNoZero bytes place len
is_free bytes place len count is all = omega (arith, is, all, before_zero-take len (drop place bytes))

-- the first byte of the next piece
pub next_piece : (place len : ℕ) → 0 < len → place % len < len → (place / len + 1) * len ≡ place + (len - place % len)
next_piece place len some below =
    let whole : place / len * len + place % len ≡ place = div-add-mod' place len in
    let more : (place / len + 1) * len ≡ place / len * len + len = omega arith in
    omega (arith, whole, more, below)

-- a text stands in a section where a zero byte comes before the section's end
pub zero_within : (file : List ℕ) (i place first end found : ℕ) → place < length (section_bytes file i) → first ≡ (section_fields file i).sh_offset + place → end ≡ (section_fields file i).sh_offset + length (section_bytes file i)
    → found ≡ zero_from file first → nat_lt found end ≡ has_text place (section_bytes file i)
zero_within file i place first end found some at to is =
    let bytes = section_bytes file i in
    let rest = drop place bytes in
    let len : length rest ≡ length bytes - place = length-drop place bytes in
    let part : rest ≡ take (length rest) (drop first file) = text_place file i place first rest refl (λ _. at) in
    let before : before_zero rest ≡ min (length rest) (before_zero (drop first file)) = ap before_zero part ∙ before_zero-take (length rest) (drop first file) in
    let test : nat_lt found end ≡ nat_lt (before_zero rest) (length rest) = elim (cases_lt found end) [
      | inl below ↦ lt-ltb _ _ below ∙ sym (lt-ltb (before_zero rest) (length rest) (omega (arith, below, some, len, before, at, to, is)))
      | inr past ↦ le-ltb _ _ past ∙ sym (le-ltb (before_zero rest) (length rest) (omega (arith, past, some, len, before, at, to, is)))
    ] in
    test ∙ sym (has_by place bytes (nat_lt (before_zero rest) (length rest)) refl)
