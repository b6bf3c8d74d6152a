-- What numbers at places and runs at places determine of the bytes there.
use Rattle.std.proofs.Common.{◌≡◌, ℕ, ◌+◌, ◌-◌, ◌*◌, ◌<◌, ◌≤◌, ℤ, pos, ◌+ℤ◌, ◌-ℤ◌, Bool, true, false, List, [], ◌∷◌, length, refl, ap, sym, ◌∙◌, arith, nat_lt, slice_index}
use Rattle.std.specs.Prelude.{zero, suc, take, drop, if◌then◌else◌}
use Rattle.std.proofs.lemmas.List.{get_or-take, get_or-drop}
use Rattle.std.proofs.Math.IntN.{+ℤ-neg_ℤ_cancel, -ℤ-+ℤ_cancel, +ℤ_comm}
use Rattle.byteorder.specs.Endian.{little_from, twos_complement}
use Rattle.sf_model.specs.Section.{AreBytes}
use Rattle.sf_model.specs.RowBytes.{StandsAt}
use Rattle.sf_model.proofs.RowNumbers.{below_if}

-- two lists are the same from one place up to another
abbrev pub SameWithin : (a b : List ℕ) → (low high : ℕ) → Type 0
SameWithin a b low high = (k : ℕ) → low ≤ k → k < high → slice_index a k ≡ slice_index b k

pub not_below : (m n : ℕ) → nat_lt m n ≡ false → n ≤ m
not_below m n e = search arith

join_by : (a b : List ℕ) (low mid high k : ℕ) (t : Bool) → nat_lt k mid ≡ t → SameWithin a b low mid → SameWithin a b mid high → low ≤ k → k < high → slice_index a k ≡ slice_index b k
join_by a b low mid high k true e x y le lt = x k le (below_if k mid e)
join_by a b low mid high k false e x y le lt = y k (not_below k mid e) lt

pub join : (a b : List ℕ) (low mid high : ℕ) → SameWithin a b low mid → SameWithin a b mid high → SameWithin a b low high
join a b low mid high x y k le lt = join_by a b low mid high k (nat_lt k mid) refl x y le lt

pub at_one : (a b : List ℕ) (i : ℕ) → slice_index a i ≡ slice_index b i → SameWithin a b i (suc i)
at_one a b i x k le lt = let e : i ≡ k = omega (le, lt, arith) in ap (slice_index a) (sym e) ∙ (x ∙ ap (slice_index b) e)

digits : (x y u v : ℕ) → x < 256 → y < 256 → x + 256 * u ≡ y + 256 * v → (x ≡ y) × (u ≡ v)
digits x y u v p q e = (omega arith, omega arith)

-- a number at a place determines its bytes
pub number_told : (n i : ℕ) (a b : List ℕ) → AreBytes a → AreBytes b → little_from i n a ≡ little_from i n b → SameWithin a b i (i + n)
number_told zero i a b p q e = λ k le lt. absurd (omega (le, lt, arith))
number_told (suc n) i a b p q e =
    let parts = digits (slice_index a i) (slice_index b i) (little_from (suc i) n a) (little_from (suc i) n b) (p i) (q i) e in
    join a b i (suc i) (i + suc n) (at_one a b i parts.0) (λ k le lt. number_told n (suc i) a b p q parts.1 k le (omega (lt, arith)))

standing : (bytes : List ℕ) (place : ℕ) (run : List ℕ) → StandsAt bytes place run → (k : ℕ) → place ≤ k → k < place + length run → slice_index bytes k ≡ slice_index run (k - place)
standing bytes place run s k le lt =
    let within : k - place < length run = omega (le, lt, arith) in
    let there : k ≡ place + (k - place) = omega (le, arith) in
    ap (slice_index bytes) there ∙ (sym (get_or-drop place bytes (k - place) 0) ∙ (sym (get_or-take (length run) (drop place bytes) (k - place) 0 within)
    ∙ ap (λ l. slice_index l (k - place)) s))

-- a run at a place determines the bytes there
pub run_told : (a b : List ℕ) (place : ℕ) (run : List ℕ) → StandsAt a place run → StandsAt b place run → SameWithin a b place (place + length run)
run_told a b place run s t k le lt = standing a place run s k le lt ∙ sym (standing b place run t k le lt)

-- all bytes determine the list
pub list_told : (a b : List ℕ) → length a ≡ length b → SameWithin a b 0 (length a) → a ≡ b
list_told [] [] n s = refl
list_told [] (y ∷ ys) n s = absurd (omega (n, arith))
list_told (x ∷ xs) [] n s = absurd (omega (n, arith))
list_told (x ∷ xs) (y ∷ ys) n s =
    let here : x ≡ y = s 0 (omega arith) (omega arith) in
    let n' : length xs ≡ length ys = omega (n, arith) in
    ap (λ v. v ∷ xs) here ∙ ap (λ l. y ∷ l) (list_told xs ys n' (λ k le lt. s (suc k) (omega arith) (omega (lt, arith))))

-- a part that was taken out determines those bytes of the whole
pub part_told : (a b : List ℕ) (place len m : ℕ) → len ≡ m → SameWithin (take len (drop place a)) (take m (drop place b)) 0 len → SameWithin a b place (place + len)
part_told a b place len m e s k le lt =
    let within : k - place < len = omega (le, lt, arith) in
    let within' : k - place < m = omega (e, within, arith) in
    let there : k ≡ place + (k - place) = omega (le, arith) in
    ap (slice_index a) there ∙ (sym (get_or-drop place a (k - place) 0) ∙ (sym (get_or-take len (drop place a) (k - place) 0 within)
    ∙ (s (k - place) (omega arith) within ∙ (get_or-take m (drop place b) (k - place) 0 within' ∙ (get_or-drop place b (k - place) 0 ∙ ap (slice_index b) (sym there))))))

same_number : (m n : ℕ) → pos m ≡ pos n → m ≡ n
same_number m n e = cc

-- a number that a power was taken from
lifted : (x y : ℤ) → x ≡ y -ℤ pos 4294967296 → x +ℤ pos 4294967296 ≡ y
lifted x y e = ap (λ z. z +ℤ pos 4294967296) e ∙ -ℤ-+ℤ_cancel y (pos 4294967296)

too_great : (x y : ℕ) → y < 4294967296 → pos x +ℤ pos 4294967296 ≡ pos y → ⊥
too_great x y v e = let f : x + 4294967296 ≡ y = same_number (x + 4294967296) y e in absurd (omega (f, v, arith))

-- a signed number of four bytes determines its number
signed_by : (x y : ℕ) (s t : Bool) → nat_lt x 2147483648 ≡ s → nat_lt y 2147483648 ≡ t → x < 4294967296 → y < 4294967296
    → (if s then pos x else pos x -ℤ pos 4294967296) ≡ (if t then pos y else pos y -ℤ pos 4294967296) → x ≡ y
signed_by x y true true p q u v e = same_number x y e
signed_by x y true false p q u v e = absurd (too_great x y v (lifted (pos x) (pos y) e))
signed_by x y false true p q u v e = absurd (too_great y x u (lifted (pos y) (pos x) (sym e)))
signed_by x y false false p q u v e = same_number x y (sym (-ℤ-+ℤ_cancel (pos x) (pos 4294967296)) ∙ lifted (pos x -ℤ pos 4294967296) (pos y) e)

pub signed_told : (x y : ℕ) → x < 4294967296 → y < 4294967296 → twos_complement 4 x ≡ twos_complement 4 y → x ≡ y
signed_told x y u v e = signed_by x y (nat_lt x 2147483648) (nat_lt y 2147483648) refl refl u v e

pub origin_cancels : (o x y : ℤ) → o +ℤ x ≡ o +ℤ y → x ≡ y
origin_cancels o x y e =
    sym (+ℤ-neg_ℤ_cancel x o) ∙ (ap (λ z. z -ℤ o) (+ℤ_comm x o ∙ (e ∙ +ℤ_comm o y)) ∙ +ℤ-neg_ℤ_cancel y o)
