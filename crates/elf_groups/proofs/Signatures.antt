-- Signatures in an ordered set, as the numbers of their whole blocks and what comes before.
use Rattle.std.specs.Prelude.{◌||◌, ◌==◌, bytes_eq, not}
use Rattle.std.specs.List.{list_any}
use Rattle.std.specs.Ordering.{match_ordering, is_eq}
use Rattle.std.specs.declared.cmp.Ordering.{Ordering}
use Rattle.std.specs.declared.cmp.Ordering.TheVariants.{Less, Equal, Greater}
use Rattle.std.specs.BTreeSet.{insert_key}
use Rattle.std.proofs.lemmas.Slice.Eq.{bytes_eq-Decides}
use Rattle.std.proofs.lemmas.Bool.{and_from, and_parts, eqb-true, eq-eqb}
use Rattle.std.proofs.lemmas.List.Folds.{list_any-append}
use Rattle.std.proofs.lemmas.List.Elements.{All-head, All-tail, All-cons}
use Rattle.std.proofs.lemmas.List.{append_cancel_left, length-append, length-drop, length-take, take-append-drop, take_all}
use Rattle.std.proofs.Math.Seq.{take-append_seam}
use Rattle.std.proofs.Common.{◌≡◌, ℕ, Bool, true, false, All, List, [], ◌∷◌, ◌++◌, ◌+◌, ◌-◌, ◌*◌, ◌/◌, ◌%◌, ◌<◌, min, length, refl, sym, ap, ◌∙◌, zero, suc, ◌≤◌, take, drop, Result, Ok, Err, OnOk, arith}
use Rattle.elf_read.specs.Number.{window, LiesAt}
use Rattle.elf_groups.specs.declared.text_numbers.TextNumbers.{TextNumbers}
use Rattle.elf_groups.specs.TextNumbers.{AreBlocks, KeepsNumbers, IsOfBlocks, Numbers, text_of}
use Rattle.elf_groups.specs.SeenSignatures.{IsKeptIn, is_kept_as}
use Rattle.elf_groups.proofs.WholeBlocks.{Key, key_cmp, numbered_is_whole, one_number, tied}

-- ---- on tests
or_swap : (a b c : Bool) → (a || (b || c)) ≡ (b || (a || c))
or_swap true true c = refl
or_swap true false c = refl
or_swap false b c = refl

or_again : (a b : Bool) → (a || (a || b)) ≡ (a || b)
or_again true b = refl
or_again false b = refl

or_last : (a b : Bool) → (a || b) ≡ (b || (a || false))
or_last true true = refl
or_last true false = refl
or_last false true = refl
or_last false false = refl

pub not_not : (b : Bool) → not (not b) ≡ b
not_not true = refl
not_not false = refl

both_or_none : (a b : Bool) → (a ≡ true → b ≡ true) → (b ≡ true → a ≡ true) → a ≡ b
both_or_none true b there back = sym (there refl)
both_or_none false true there back = back refl
both_or_none false false there back = refl

-- keys of one order are one
same_numbers : (a b : Key) → is_eq (key_cmp a b) ≡ true → a.0 ≡ b.0
same_numbers a b e = eqb-true a.0 b.0 (and_parts (a.0 == b.0) (bytes_eq a.1.now b.1.now) (sym (tied a b) ∙ e)).0

same_bytes : (a b : Key) → is_eq (key_cmp a b) ≡ true → a.1.now ≡ b.1.now
same_bytes a b e = (bytes_eq-Decides a.1.now b.1.now).0 (and_parts (a.0 == b.0) (bytes_eq a.1.now b.1.now) (sym (tied a b) ∙ e)).1

tied_by : (a b : Key) → a.0 ≡ b.0 → a.1.now ≡ b.1.now → is_eq (key_cmp a b) ≡ true
tied_by a b numbers bytes = tied a b ∙ and_from (a.0 == b.0) (bytes_eq a.1.now b.1.now) (eq-eqb a.0 b.0 numbers) ((bytes_eq-Decides a.1.now b.1.now).1 bytes)

-- ---- one key more
module _ (test : Key → Bool) (alike : (a b : Key) → is_eq (key_cmp a b) ≡ true → test a ≡ test b) where
  any_by_order : (key k : Key) (ks : List Key) (o : Ordering) → key_cmp key k ≡ o → list_any test (insert_key key_cmp ks key) ≡ (test key || list_any test ks)
      → list_any test (match_ordering o (key ∷ k ∷ ks) (k ∷ ks) (k ∷ insert_key key_cmp ks key)) ≡ (test key || (test k || list_any test ks))
  any_by_order key k ks Less e rest = refl
  any_by_order key k ks Equal e rest = sym (or_again (test k) (list_any test ks)) ∙ ap (λ (b : Bool). b || (test k || list_any test ks)) (sym (alike key k (ap is_eq e)))
  any_by_order key k ks Greater e rest = ap (λ (b : Bool). test k || b) rest ∙ or_swap (test k) (test key) (list_any test ks)

  any_more : (key : Key) (keys : List Key) → list_any test (insert_key key_cmp keys key) ≡ (test key || list_any test keys)
  any_more key [] = refl
  any_more key (k ∷ ks) = any_by_order key k ks (key_cmp key k) refl (any_more key ks)

module _ (P : Key → Type 0) where
  all_by_order : (key k : Key) (ks : List Key) (o : Ordering) → All P (k ∷ ks) → P key → All P (insert_key key_cmp ks key) → All P (match_ordering o (key ∷ k ∷ ks) (k ∷ ks) (k ∷ insert_key key_cmp ks key))
  all_by_order key k ks Less each new rest = All-cons P key (k ∷ ks) new each
  all_by_order key k ks Equal each new rest = each
  all_by_order key k ks Greater each new rest = All-cons P k (insert_key key_cmp ks key) (All-head P k ks each) rest

  pub all_more : (keys : List Key) (key : Key) → All P keys → P key → All P (insert_key key_cmp keys key)
  all_more [] key each new = All-cons P key [] new each
  all_more (k ∷ ks) key each new = all_by_order key k ks (key_cmp key k) each new (all_more ks key (All-tail P k ks each) new)

-- ---- a signature in two parts
pub joined : (signature front whole : List ℕ) (at : ℕ) → front ≡ take at signature → whole ≡ drop at signature → signature ≡ front ++ whole
joined signature front whole at before behind = sym (ap (λ (xs : List ℕ). xs ++ whole) before ∙ ap (λ (xs : List ℕ). take at signature ++ xs) behind ∙ take-append-drop at signature)

front_is_short : (signature front : List ℕ) → front ≡ take (length signature % 256) signature → length front < 256
front_is_short signature front before =
    let len : length front ≡ min (length signature % 256) (length signature) = ap length before ∙ length-take (length signature % 256) signature in
    omega (arith, len)

pub rest_is_whole : (signature whole : List ℕ) → whole ≡ drop (length signature % 256) signature → IsOfBlocks whole
rest_is_whole signature whole behind =
    let len : length whole ≡ length signature - length signature % 256 = ap length behind ∙ length-drop (length signature % 256) signature in
    (length signature / 256, omega (arith, len))

pub own_key : (blocks : TextNumbers) (signature front whole : List ℕ) (key : Key) → key.1.now ≡ front → front ≡ take (length signature % 256) signature → Numbers blocks key.0 whole → IsKeptIn blocks key
own_key blocks signature front whole key is before number =
    let short : length front < 256 = front_is_short signature front before in
    let same : length key.1.now ≡ length front = ap length is in
    record {
      short = omega (arith, short, same);
      number = record { below = number.below; text = refl };
    }

-- less than a block before whole blocks
same_fronts : (f g x y : List ℕ) → length f < 256 → length g < 256 → IsOfBlocks x → IsOfBlocks y → f ++ x ≡ g ++ y → f ≡ g
same_fronts f g x y short_f short_g whole_x whole_y same =
    let all_f : length (f ++ x) ≡ length f + length x = length-append f x in
    let all_g : length (g ++ y) ≡ length g + length y = length-append g y in
    let count_x : length x ≡ whole_x.0 * 256 = whole_x.1 in
    let count_y : length y ≡ whole_y.0 * 256 = whole_y.1 in
    let lens : length (f ++ x) ≡ length (g ++ y) = ap length same in
    let len : length f ≡ length g = omega (arith, all_f, all_g, count_x, count_y, lens, short_f, short_g) in
    sym (take-append_seam f x) ∙ ap (take (length f)) same ∙ ap (λ (n : ℕ). take n (g ++ y)) len ∙ take-append_seam g y

-- keys are one where their signatures are
one_key : (blocks : TextNumbers) (a b : Key) → AreBlocks blocks → IsKeptIn blocks a → IsKeptIn blocks b → a.1.now ++ text_of blocks a.0 ≡ b.1.now ++ text_of blocks b.0 → is_eq (key_cmp a b) ≡ true
one_key blocks a b are kept_a kept_b same =
    let x = text_of blocks a.0 in
    let y = text_of blocks b.0 in
    let fronts : a.1.now ≡ b.1.now = same_fronts a.1.now b.1.now x y kept_a.short kept_b.short (numbered_is_whole blocks a.0 x are kept_a.number) (numbered_is_whole blocks b.0 y are kept_b.number) same in
    let ends : text_of blocks a.0 ≡ text_of blocks b.0 = append_cancel_left b.1.now x y (ap (λ (f : List ℕ). f ++ x) (sym fronts) ∙ same) in
    tied_by a b (one_number blocks a.0 b.0 y are (record { below = kept_a.number.below; text = ends }) kept_b.number) fronts

key_test : (blocks : TextNumbers) (key k : Key) → AreBlocks blocks → IsKeptIn blocks key → IsKeptIn blocks k → is_eq (key_cmp key k) ≡ is_kept_as blocks (key.1.now ++ text_of blocks key.0) k
key_test blocks key k are own other =
    both_or_none (is_eq (key_cmp key k)) (is_kept_as blocks (key.1.now ++ text_of blocks key.0) k)
    (λ tie. (bytes_eq-Decides (key.1.now ++ text_of blocks key.0) (k.1.now ++ text_of blocks k.0)).1 (ap (λ (n : ℕ). key.1.now ++ text_of blocks n) (same_numbers key k tie) ∙ ap (λ (xs : List ℕ). xs ++ text_of blocks k.0) (same_bytes key k tie)))
    (λ same. one_key blocks key k are own other ((bytes_eq-Decides (key.1.now ++ text_of blocks key.0) (k.1.now ++ text_of blocks k.0)).0 same))

-- the test of the order is the test of the signature
pub any_same : (blocks : TextNumbers) (key : Key) (keys : List Key) → AreBlocks blocks → IsKeptIn blocks key → All (IsKeptIn blocks) keys → list_any (λ k. is_eq (key_cmp key k)) keys ≡ list_any (is_kept_as blocks (key.1.now ++ text_of blocks key.0)) keys
any_same blocks key [] are own each = refl
any_same blocks key (k ∷ ks) are own each =
    ap (λ (b : Bool). b || list_any (λ x. is_eq (key_cmp key x)) ks) (key_test blocks key k are own (All-head (IsKeptIn blocks) k ks each))
    ∙ ap (λ (b : Bool). is_kept_as blocks (key.1.now ++ text_of blocks key.0) k || b) (any_same blocks key ks are own (All-tail (IsKeptIn blocks) k ks each))

-- ---- with more numbers
same_text : (old new : TextNumbers) (n : ℕ) → KeepsNumbers old new → Numbers old n (text_of old n) → text_of new n ≡ text_of old n
same_text old new n grows number = (grows n (text_of old n) number).text

still_kept : (old new : TextNumbers) (k : Key) → KeepsNumbers old new → IsKeptIn old k → IsKeptIn new k
still_kept old new k grows kept = record {
  short = kept.short;
  number = record { below = (grows k.0 (text_of old k.0) kept.number).below; text = refl };
}

pub all_still_kept : (old new : TextNumbers) (keys : List Key) → KeepsNumbers old new → All (IsKeptIn old) keys → All (IsKeptIn new) keys
all_still_kept old new keys grows each k d low = still_kept old new _ grows (each k d low)

pub any_still_kept : (old new : TextNumbers) (q : List ℕ) (keys : List Key) → KeepsNumbers old new → All (IsKeptIn old) keys → list_any (is_kept_as new q) keys ≡ list_any (is_kept_as old q) keys
any_still_kept old new q [] grows each = refl
any_still_kept old new q (k ∷ ks) grows each =
    ap (λ (xs : List ℕ). bytes_eq q (k.1.now ++ xs) || list_any (is_kept_as new q) ks) (same_text old new k.0 grows (All-head (IsKeptIn old) k ks each).number)
    ∙ ap (λ (b : Bool). is_kept_as old q k || b) (any_still_kept old new q ks grows (All-tail (IsKeptIn old) k ks each))

-- ---- one signature more
kept_alike : (blocks : TextNumbers) (q : List ℕ) (a b : Key) → is_eq (key_cmp a b) ≡ true → is_kept_as blocks q a ≡ is_kept_as blocks q b
kept_alike blocks q a b e = ap (λ (n : ℕ). bytes_eq q (a.1.now ++ text_of blocks n)) (same_numbers a b e) ∙ ap (λ (xs : List ℕ). bytes_eq q (xs ++ text_of blocks b.0)) (same_bytes a b e)

pub seen_more : (blocks : TextNumbers) (q signature : List ℕ) (key : Key) (keys new : List Key) (seen : List (List ℕ)) → signature ≡ key.1.now ++ text_of blocks key.0 → new ≡ insert_key key_cmp keys key → list_any (is_kept_as blocks q) keys ≡ list_any (bytes_eq q) seen
    → list_any (is_kept_as blocks q) new ≡ list_any (bytes_eq q) (seen ++ signature ∷ [])
seen_more blocks q signature key keys new seen is e h =
    ap (λ (ks : List Key). list_any (is_kept_as blocks q) ks) e
    ∙ any_more (is_kept_as blocks q) (kept_alike blocks q) key keys
    ∙ ap (λ (b : Bool). is_kept_as blocks q key || b) h
    ∙ ap (λ (xs : List ℕ). bytes_eq q xs || list_any (bytes_eq q) seen) (sym is)
    ∙ or_last (bytes_eq q signature) (list_any (bytes_eq q) seen)
    ∙ sym (list_any-append (bytes_eq q) seen (signature ∷ []))

-- ---- texts at places of a file
take_of_take : (n k : ℕ) (xs : List ℕ) → n ≤ k → take n (take k xs) ≡ take n xs
take_of_take zero k xs upto = refl
take_of_take (suc n) zero xs upto = absurd (omega (arith, upto))
take_of_take (suc n) (suc k) [] upto = let low : 0 ≤ suc k = omega arith in ap (take (suc n)) (take_all (suc k) [] low)
take_of_take (suc n) (suc k) (x ∷ xs) upto = ap (λ (ys : List ℕ). x ∷ ys) (take_of_take n k xs (omega (arith, upto)))

pub front_stands : (file rest text : List ℕ) (place len : ℕ) → LiesAt place rest file → len ≤ length rest → text ≡ take len rest → LiesAt place text file
front_stands file rest text place len stands short is =
    let all : length text ≡ min len (length rest) = ap length is ∙ length-take len rest in
    let same : len ≡ length text = omega (arith, all, short) in
    is ∙ ap (take len) stands ∙ take_of_take len (length rest) (drop place file) short ∙ ap (λ (n : ℕ). window place n file) same

pub on_ok_more : {T E P Q : Type 0} → (r : Result T E) → OnOk r P → (P → Q) → OnOk r Q
on_ok_more (Ok x) p more = more p
on_ok_more (Err e) p more = tt
