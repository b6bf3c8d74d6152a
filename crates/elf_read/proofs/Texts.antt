-- Texts of string tables, up to their first zero byte.
use Rattle.std.proofs.Common.{◌≡◌, ℕ, zero, suc, ◌+◌, ◌-◌, ◌<◌, ◌≤◌, ◌==◌, ◌&&◌, Bool, true, false, not, cond, List, [], ◌∷◌, length, get_or, take, drop, Some, None, refl, sym, ap, subst, ◌∙◌, arith, nat_lt, min, inl, inr, lt-ltb, le-ltb, is_some}
use Rattle.std.specs.Cmp.Lexicographic.{pointwise}
use Rattle.std.specs.List.{position_or_len}
use Rattle.std.proofs.lemmas.Bool.{cases_lt, eq-eqb, ne_eqb}
use Rattle.std.proofs.Math.ListN.{drop_of_length-le}
use Rattle.std.proofs.lemmas.List.{get_or-drop, length-drop, length-take, drop-drop, drop-take, take_min}
use Rattle.std.proofs.lemmas.List.Sums.{prefix_len_passes, prefix_len_stops}
use Rattle.elf_read.specs.Number.{text_in, has_text, window, LiesAt}
use Rattle.elf_read.specs.Sections.{has_bytes, name_table, section_bytes, section_name, section_fields}

abbrev is_zero : ℕ → Bool
is_zero b = b == 0

abbrev not_zero : ℕ → Bool
not_zero b = not (is_zero b)

-- the bytes before the first zero byte, as what is taken
abbrev front : List ℕ → List ℕ
front xs = take (position_or_len is_zero xs) xs

pub text_front : (place : ℕ) (table : List ℕ) → text_in place table ≡ front (drop place table)
unfolding text_in
text_front place table = refl

front_taken_by : (n : ℕ) (b : Bool) (x : ℕ) (xs : List ℕ) (k m : ℕ) → take k (take n xs) ≡ take n (take m xs)
    → take (cond (not b) (1 + k) 0) (x ∷ take n xs) ≡ take (suc n) (take (cond (not b) (1 + m) 0) (x ∷ xs))
front_taken_by n true x xs k m h = refl
front_taken_by n false x xs k m h =
    let one_k : 1 + k ≡ suc k = omega arith in
    let one_m : suc m ≡ 1 + m = omega arith in
    ap (λ (j : ℕ). take j (x ∷ take n xs)) one_k ∙ ap (λ (ys : List ℕ). x ∷ ys) h ∙ ap (λ (j : ℕ). take (suc n) (take j (x ∷ xs))) one_m

-- the front of the first n bytes is what is taken of the front
front_taken : (n : ℕ) (xs : List ℕ) → front (take n xs) ≡ take n (front xs)
front_taken zero xs = refl
front_taken (suc n) [] = refl
front_taken (suc n) (x ∷ xs) = front_taken_by n (is_zero x) x xs (position_or_len is_zero (take n xs)) (position_or_len is_zero xs) (front_taken n xs)

abbrev same : ℕ → ℕ → Bool
same a b = a == b

-- one byte more than a text has tells whether it is that text
told_by_front : (xs text : List ℕ) → pointwise same (take (suc (length text)) xs) text ≡ pointwise same xs text
told_by_front [] [] = refl
told_by_front [] (t ∷ ts) = refl
told_by_front (x ∷ xs) [] = refl
told_by_front (x ∷ xs) (t ∷ ts) = ap (λ (b : Bool). (x == t) && b) (told_by_front xs ts)

pub text_told : (place : ℕ) (table text : List ℕ) → pointwise same (text_in 0 (take (length text + 1) (drop place table))) text ≡ pointwise same (text_in place table) text
text_told place table text =
    let one : length text + 1 ≡ suc (length text) = omega arith in
    ap (λ (ys : List ℕ). pointwise same ys text) (text_front 0 (take (length text + 1) (drop place table)) ∙ front_taken (length text + 1) (drop place table))
    ∙ ap (λ (n : ℕ). pointwise same (take n (front (drop place table))) text) one
    ∙ told_by_front (front (drop place table)) text
    ∙ ap (λ (ys : List ℕ). pointwise same ys text) (sym (text_front place table))

pub has_by : (place : ℕ) (table : List ℕ) (b : Bool) → nat_lt (position_or_len is_zero (drop place table)) (length (drop place table)) ≡ b → has_text place table ≡ b
unfolding has_text
has_by place table true h = ap (λ (b : Bool). is_some (cond b (Some (position_or_len is_zero (drop place table))) None)) h
has_by place table false h = ap (λ (b : Bool). is_some (cond b (Some (position_or_len is_zero (drop place table))) None)) h

negated : (b : Bool) → b ≡ true → not b ≡ false
negated true h = refl
negated false h = absurd (cc h)

-- a text stands before a zero byte
pub stands : (place k : ℕ) (table : List ℕ) → place ≤ k → k < length table → is_zero (get_or table k 0) ≡ true → has_text place table ≡ true
stands place k table low within here =
    let at : place + (k - place) ≡ k = omega (arith, low) in
    let byte : get_or (drop place table) (k - place) 0 ≡ get_or table k 0 = get_or-drop place table (k - place) 0 ∙ ap (λ (j : ℕ). get_or table j 0) at in
    let len : length (drop place table) ≡ length table - place = length-drop place table in
    has_by place table true (elim (cases_lt (position_or_len is_zero (drop place table)) (length (drop place table))) [
      | inl before ↦ lt-ltb _ _ before
      | inr past ↦
          let inside : k - place < position_or_len is_zero (drop place table) = omega (arith, low, within, len, past) in
          let passes : not_zero (get_or (drop place table) (k - place) 0) ≡ true = prefix_len_passes not_zero (drop place table) (k - place) 0 inside in
          let fails : not_zero (get_or (drop place table) (k - place) 0) ≡ false = ap (λ (b : ℕ). not_zero b) byte ∙ negated _ here in
          absurd (cc (sym passes ∙ fails))
    ])

-- none stands where no zero byte follows
pub none_stands : (place : ℕ) (table : List ℕ) → ((k : ℕ) → place ≤ k → k < length table → is_zero (get_or table k 0) ≡ false) → has_text place table ≡ false
none_stands place table none =
    let len : length (drop place table) ≡ length table - place = length-drop place table in
    let p : ℕ = position_or_len is_zero (drop place table) in
    has_by place table false (elim (cases_lt (position_or_len is_zero (drop place table)) (length (drop place table))) [
      | inl before ↦
          let stop : not_zero (get_or (drop place table) (position_or_len is_zero (drop place table)) 0) ≡ false = prefix_len_stops not_zero (drop place table) 0 before in
          let byte : get_or (drop place table) (position_or_len is_zero (drop place table)) 0 ≡ get_or table (place + position_or_len is_zero (drop place table)) 0 = get_or-drop place table (position_or_len is_zero (drop place table)) 0 in
          let other : is_zero (get_or table (place + position_or_len is_zero (drop place table)) 0) ≡ false = none (place + position_or_len is_zero (drop place table)) (omega arith) (omega (arith, before, len)) in
          absurd (cc (sym stop ∙ ap (λ (b : ℕ). not_zero b) byte ∙ ap (λ (b : Bool). not b) other))
      | inr past ↦ le-ltb _ _ past
    ])

-- ---- texts that are lent
pub text_from : (place : ℕ) (table : List ℕ) → text_in 0 (drop place table) ≡ text_in place table
unfolding text_in
text_from place table = refl

none_by : (z : Bool) (b : ℕ) (bs : List ℕ) (k : ℕ) → z ≡ (length (take (cond (not z) (1 + k) 0) (b ∷ bs)) == 0)
none_by true b bs k = refl
none_by false b bs k =
    let one : 1 + k ≡ suc k = omega arith in
    let some : length (take (1 + k) (b ∷ bs)) ≡ suc (length (take k bs)) = ap (λ (n : ℕ). length (take n (b ∷ bs))) one in
    sym (ne_eqb (length (take (1 + k) (b ∷ bs))) 0 (λ e. omega (arith, e, some)))

-- a text has no bytes where none is left, or a zero byte stands at its place
pub empty_at_end : (rest : List ℕ) → length rest < 1 → true ≡ (length (text_in 0 rest) == 0)
empty_at_end [] none = sym (ap (λ (ys : List ℕ). length ys == 0) (text_front 0 []))
empty_at_end (b ∷ bs) none = absurd (omega (arith, none))

pub empty_at_zero : (rest : List ℕ) → 1 ≤ length rest → (get_or rest 0 0 == 0) ≡ (length (text_in 0 rest) == 0)
empty_at_zero [] some = absurd (omega (arith, some))
empty_at_zero (b ∷ bs) some = none_by (is_zero b) b bs (position_or_len is_zero bs) ∙ sym (ap (λ (ys : List ℕ). length ys == 0) (text_front 0 (b ∷ bs)))

-- what is left of a window stands in the file
window_part : (size n : ℕ) (xs : List ℕ) → drop n (take size xs) ≡ take (size - n) (drop n xs)
window_part size n xs = elim (cases_lt n size) [
  | inl below ↦ let all : size ≡ n + (size - n) = omega (arith, below) in ap (λ (s : ℕ). drop n (take s xs)) all ∙ drop-take n (size - n) xs
  | inr past ↦
      let none : size - n ≡ 0 = omega (arith, past) in
      let short : length (take size xs) ≤ n = (let len : length (take size xs) ≡ min size (length xs) = length-take size xs in omega (arith, len, past)) in
      drop_of_length-le (take size xs) short ∙ ap (λ (s : ℕ). take s (drop n xs)) (sym none)
]

pub stands_at : (p size n : ℕ) (bytes : List ℕ) → LiesAt (p + n) (drop n (window p size bytes)) bytes
stands_at p size n bytes =
    let ys = drop (p + n) bytes in
    let part : drop n (window p size bytes) ≡ take (size - n) ys = window_part size n (drop p bytes) ∙ ap (take (size - n)) (drop-drop n p bytes) in
    part ∙ sym (take_min (size - n) ys) ∙ ap (λ (k : ℕ). take k ys) (sym (ap length part ∙ length-take (size - n) ys))

place_by : (b : Bool) (off size : ℕ) (file : List ℕ) (place at : ℕ) (rest : List ℕ) → rest ≡ drop place (cond b (window off size file) []) → (0 < length rest → at ≡ off + place) → LiesAt at rest file
place_by b off size file place at [] is there = refl
place_by true off size file place at (x ∷ xs) is there =
    let same : at ≡ off + place = there (omega arith) in
    subst (λ (p : ℕ). LiesAt p (x ∷ xs) file) (sym same) (subst (λ (r : List ℕ). LiesAt (off + place) r file) (sym is) (stands_at off size place file))
place_by false off size file place at (x ∷ xs) is there =
    let low : 0 ≤ place = omega arith in
    absurd (let differ : x ∷ xs ≡ [] = is ∙ drop_of_length-le [] low in cc)

-- what is left of a section from a place on stands at that place of the section
pub text_place : (file : List ℕ) (i place at : ℕ) (rest : List ℕ) → rest ≡ drop place (section_bytes file i) → (0 < length rest → at ≡ (section_fields file i).sh_offset + place) → LiesAt at rest file
unfolding section_bytes
text_place file i place at rest is there = place_by (has_bytes file i) (section_fields file i).sh_offset (section_fields file i).sh_size file place at rest is there

pub no_name : (file : List ℕ) (i : ℕ) → name_table file ≡ 0 → text_in 0 [] ≡ section_name file i
unfolding section_name
no_name file i none = text_front 0 [] ∙ sym (ap (λ (b : Bool). cond b [] (text_in (section_fields file i).sh_name (section_bytes file (name_table file)))) (eq-eqb _ _ none))
