-- Stretches in order, and the entries that they are.
use Rattle.std.specs.Prelude.{bytes_eq, nat_le, ◌==◌, ◌&&◌, ◌||◌}
use Rattle.std.specs.List.{list_any, position_from}
use Rattle.std.specs.List.Sorted.{IsPartitionPoint}
use Rattle.std.proofs.Common.{◌≡◌, ℕ, zero, suc, ◌+◌, ◌-◌, ◌^◌, ◌<◌, ◌≤◌, Bool, true, false, cond, List, [], ◌∷◌, ◌++◌, length, get_or, map, take, Some, None, refl, sym, ap, ◌∙◌, arith}
use Rattle.std.proofs.lemmas.Bool.{eq-eqb, eqb-true, false_from_ne_true}
use Rattle.std.proofs.lemmas.List.{map-append, take_more}
use Rattle.std.proofs.lemmas.List.Folds.{list_any-append}
use Rattle.std.proofs.lemmas.Slice.Eq.{bytes_eq-Decides}
use Rattle.sf_modules.specs.declared.entry.Entry.{Entry}
use Rattle.sf_modules.specs.declared.stretch.Stretch.{Stretch}
use Rattle.sf_modules.specs.Entry.{EntryView, mapping_view, maps}
use Rattle.sf_modules.specs.Name.{name_number}
use Rattle.sf_modules.specs.Stretch.{AreOf, ends_after, has_at, has_place, has_point, names_in, start_point}
use Rattle.sf_modules.proofs.Lines.{both, same_test}

-- ---- names and their numbers
record IsFound (p : List ℕ → Bool) (first k : ℕ) (names : List (List ℕ)) : Type 0 where
  from : first ≤ k
  passes : (d : List ℕ) → p (get_or names (k - first) d) ≡ true

found_at : (p : List ℕ → Bool) (first k : ℕ) (names : List (List ℕ)) → position_from p first names ≡ Some k → IsFound p first k names
found_at p first k [] e = absurd (let no : None ≡ Some k = e in cc)
found_at p first k (x ∷ xs) e = at_test (p x) refl e (found_at p (first + 1) k xs)
  where
    at_test : (b : Bool) → p x ≡ b → cond b (Some first) (position_from p (first + 1) xs) ≡ Some k → (position_from p (first + 1) xs ≡ Some k → IsFound p (first + 1) k xs) → IsFound p first k (x ∷ xs)
    at_test true t here later =
        let same : first ≡ k = cc in
        let none : k - first ≡ 0 = omega (same, arith) in
        record { from = omega (same, arith); passes = λ d. ap (λ (n : ℕ). p (get_or (x ∷ xs) n d)) none ∙ t }
    at_test false t here later =
        let h = later here in
        let from = h.from in
        let next : k - first ≡ suc (k - (first + 1)) = omega (from, arith) in
        record { from = omega (from, arith); passes = λ d. ap (λ (n : ℕ). p (get_or (x ∷ xs) n d)) next ∙ h.passes d }

same_bytes : (a b : List ℕ) → bytes_eq a b ≡ true → a ≡ b
same_bytes a b e = (bytes_eq-Decides a b).0 e

equal_bytes : (a b : List ℕ) → a ≡ b → bytes_eq a b ≡ true
equal_bytes a b e = (bytes_eq-Decides a b).1 e

-- names of one number are the same
pub numbers_tell : (own name : List ℕ) (n m : ℕ) (names : List (List ℕ)) → name_number own names ≡ Some n → name_number name names ≡ Some m → (n == m) ≡ bytes_eq own name
numbers_tell own name n m names e f = same_test _ _
    (λ h. let same = eqb-true n m h in
    let a = (found_at (bytes_eq own) 0 n names e).passes own in
    let b = (found_at (bytes_eq name) 0 m names f).passes own in
    let first = same_bytes own (get_or names (n - 0) own) a in
    let second = same_bytes name (get_or names (m - 0) own) b in
    equal_bytes own name (first ∙ ap (λ (k : ℕ). get_or names (k - 0) own) same ∙ sym second))
    (λ h. let same = same_bytes own name h in
    let one : Some n ≡ Some m = sym e ∙ ap (λ (x : List ℕ). name_number x names) same ∙ f in
    let is : n ≡ m = cc in eq-eqb n m is)

-- a name of theirs has a number
none_passes : (p : List ℕ → Bool) (first : ℕ) (names : List (List ℕ)) → position_from p first names ≡ None → (k : ℕ) (d : List ℕ) → k < length names → p (get_or names k d) ≡ false
none_passes p first [] e k d lt = absurd (omega (lt, arith))
none_passes p first (x ∷ xs) e k d lt = at_test (p x) refl e k lt (λ h j within. none_passes p (first + 1) xs h j d within)
  where
    at_test : (b : Bool) → p x ≡ b → cond b (Some first) (position_from p (first + 1) xs) ≡ None → (k : ℕ) → k < length (x ∷ xs)
        → (position_from p (first + 1) xs ≡ None → (j : ℕ) → j < length xs → p (get_or xs j d) ≡ false) → p (get_or (x ∷ xs) k d) ≡ false
    at_test true t here k within later = absurd (let no : Some first ≡ None = here in cc)
    at_test false t here zero within later = t
    at_test false t here (suc j) within later = later here j (omega (within, arith))

pub has_number : (names : List (List ℕ)) (k : ℕ) (d : List ℕ) → k < length names → name_number (get_or names k d) names ≡ None → ⊥
has_number names k d lt e =
    let own = get_or names k d in
    let no : false ≡ true = sym (none_passes (bytes_eq own) 0 names e k d lt) ∙ equal_bytes own own refl in cc

-- an entry's name does
name_at : (entries : List Entry) (k : ℕ) (d : List ℕ) (e : Entry) → k < length entries → get_or (names_in (map mapping_view entries)) k d ≡ (get_or entries k e).name.now
name_at [] k d e lt = absurd (omega (lt, arith))
name_at (x ∷ xs) zero d e lt = refl
name_at (x ∷ xs) (suc k) d e lt = name_at xs k d e (omega (lt, arith))

names_count : (entries : List Entry) → length (names_in (map mapping_view entries)) ≡ length entries
names_count [] = refl
names_count (x ∷ xs) = ap suc (names_count xs)

pub entry_has_number : (entries : List Entry) (k : ℕ) (e : Entry) → k < length entries → name_number (get_or entries k e).name.now (names_in (map mapping_view entries)) ≡ None → ⊥
entry_has_number entries k e lt h =
    let names = names_in (map mapping_view entries) in
    let count = names_count entries in
    has_number names k [] (omega (lt, count, arith)) (ap (λ (x : List ℕ). name_number x names) (name_at entries k [] e lt) ∙ h)

-- a name that none has is mapped by none
pub no_name : (name : List ℕ) (first address place : ℕ) (entries : List EntryView) → position_from (bytes_eq name) first (names_in entries) ≡ None → list_any (maps name address place) entries ≡ false
no_name name first address place [] e = refl
no_name name first address place (x ∷ xs) e = at_test (bytes_eq name x.name) refl e (no_name name (first + 1) address place xs)
  where
    other : bytes_eq name x.name ≡ false → maps name address place x ≡ false
    other t = false_from_ne_true (maps name address place x) (λ h.
        let parts = both (has_at address place x) (bytes_eq x.name name) h in
        let no : false ≡ true = sym t ∙ equal_bytes name x.name (sym (same_bytes x.name name parts.1)) in cc)

    at_test : (b : Bool) → bytes_eq name x.name ≡ b → cond b (Some first) (position_from (bytes_eq name) (first + 1) (names_in xs)) ≡ None
        → (position_from (bytes_eq name) (first + 1) (names_in xs) ≡ None → list_any (maps name address place) xs ≡ false) → list_any (maps name address place) (x ∷ xs) ≡ false
    at_test true t here later = absurd (let no : Some first ≡ None = here in cc)
    at_test false t here later = ap (λ (b : Bool). b || list_any (maps name address place) xs) (other t) ∙ later here

-- ---- one entry more
pub one_more : (all : List EntryView) (entries : List Entry) (i : ℕ) (e : Entry) (number : ℕ) (stretches new : List Stretch) (s : Stretch) → i < length entries → e ≡ get_or entries i e
    → name_number e.name.now (names_in all) ≡ Some number
    → ((other address place : ℕ) → address < 2 ^ 64 → place < 2 ^ 64 → has_place other address place s ≡ (has_at address place (mapping_view e) && (number == other)))
    → new ≡ stretches ++ s ∷ [] → AreOf all (map mapping_view (take i entries)) stretches → AreOf all (map mapping_view (take (i + 1) entries)) new
one_more all entries i e number stretches new s lt is own at grown h name other address place numbered a p =
    let v = mapping_view e in
    let old = map mapping_view (take i entries) in
    let views : map mapping_view (take (i + 1) entries) ≡ old ++ v ∷ [] =
    ap (map mapping_view) (take_more entries i e lt) ∙ map-append mapping_view (take i entries) (get_or entries i e ∷ []) ∙ ap (λ (x : Entry). old ++ mapping_view x ∷ []) (sym is) in
    let last : has_place other address place s ≡ maps name address place v =
    at other address place a p ∙ ap (λ (b : Bool). has_at address place v && b) (numbers_tell v.name name number other (names_in all) own numbered) in
    ap (list_any (has_place other address place)) grown
    ∙ list_any-append (has_place other address place) stretches (s ∷ [])
    ∙ ap (λ (b : Bool). b || (has_place other address place s || false)) (h name other address place numbered a p)
    ∙ ap (λ (b : Bool). list_any (maps name address place) old || (b || false)) last
    ∙ sym (list_any-append (maps name address place) old (v ∷ []))
    ∙ ap (list_any (maps name address place)) (sym views)

-- ---- those that start by a point
pub any_upto : (at n : ℕ) (xs : List Stretch) → ((k : ℕ) (d : Stretch) → k < n → nat_le (start_point (get_or xs k d)) at ≡ true)
    → ((k : ℕ) (d : Stretch) → n ≤ k → k < length xs → nat_le (start_point (get_or xs k d)) at ≡ false) → list_any (has_point at) xs ≡ list_any (ends_after at) (take n xs)
any_upto at zero [] by above = refl
any_upto at (suc n) [] by above = refl
any_upto at zero (x ∷ xs) by above =
    ap (λ (b : Bool). (b && ends_after at x) || list_any (has_point at) xs) (above 0 x (omega arith) (omega arith))
    ∙ any_upto at zero xs (λ k d lt. absurd (omega (lt, arith))) (λ k d le lt. above (suc k) d (omega arith) (omega (lt, arith)))
any_upto at (suc n) (x ∷ xs) by above =
    ap (λ (b : Bool). (b && ends_after at x) || list_any (has_point at) xs) (by 0 x (omega arith))
    ∙ ap (λ (b : Bool). ends_after at x || b) (any_upto at n xs (λ k d lt. by (suc k) d (omega (lt, arith))) (λ k d le lt. above (suc k) d (omega (le, arith)) (omega (lt, arith))))

pub upto_point : (at n : ℕ) (xs : List Stretch) → IsPartitionPoint (λ (s : Stretch). nat_le (start_point s) at ≡ true) (λ (s : Stretch). nat_le (start_point s) at ≡ false) xs n
    → list_any (has_point at) xs ≡ list_any (ends_after at) (take n xs)
upto_point at n xs h = any_upto at n xs (λ k d lt. h.0 k d (omega arith) lt) (λ k d le lt. h.1 k d le lt)
