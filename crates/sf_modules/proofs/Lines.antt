-- Points of lines, in order.
use Rattle.std.specs.Prelude.{nat_le, nat_lt, max, ◌==◌, ◌&&◌, ◌||◌}
use Rattle.std.specs.Cmp.{nat_cmp_is}
use Rattle.std.specs.Ordering.{nat_cmp}
use Rattle.std.specs.declared.cmp.Ordering.TheVariants.{Less, Equal, Greater}
use Rattle.std.proofs.Common.{◌≡◌, ℕ, ◌+◌, ◌-◌, ◌*◌, ◌^◌, ◌<◌, ◌≤◌, Bool, true, false, refl, sym, ap, ◌∙◌, ◌⊎◌, arith, inl, inr}
use Rattle.std.proofs.lemmas.Bool.{cases_lt, eq-eqb, eqb-true, le-leb, le-ltb, leb-true, lt-ltb, ltb-true}
use Rattle.sf_modules.specs.Stretch.{line_of, point}

pub same_test : (a b : Bool) → (a ≡ true → b ≡ true) → (b ≡ true → a ≡ true) → a ≡ b
same_test true true f g = refl
same_test true false f g = absurd (let no : false ≡ true = f refl in cc)
same_test false true f g = absurd (let no : false ≡ true = g refl in cc)
same_test false false f g = refl

pub both : (a b : Bool) → (a && b) ≡ true → (a ≡ true) × (b ≡ true)
both true true h = (refl, refl)
both true false h = absurd (let no : false ≡ true = h in cc)
both false b h = absurd (let no : false ≡ true = h in cc)

pub all_of : (a b : Bool) → a ≡ true → b ≡ true → (a && b) ≡ true
all_of true b e f = f
all_of false b e f = absurd (let no : false ≡ true = e in cc)

-- ---- a point that a stretch has is on its line
same_line : (l m start end address : ℕ) → start < 2 ^ 64 → end < 2 ^ 64 → address < 2 ^ 64 → l * 2 ^ 64 + start ≤ m * 2 ^ 64 + address → m * 2 ^ 64 + address < l * 2 ^ 64 + end → l ≡ m
same_line l m start end address s e a from to = omega (s, e, a, from, to, arith)

same_number : (n m x y : ℕ) → x < 2 ^ 65 → y < 2 ^ 65 → n * 2 ^ 65 + x ≡ m * 2 ^ 65 + y → n ≡ m
same_number n m x y a b e = omega (a, b, e, arith)

module _ (number other start end offset address place : ℕ) (s : start < 2 ^ 64) (t : end < 2 ^ 64) (o : offset < 2 ^ 64) (a : address < 2 ^ 64) (p : place < 2 ^ 64) where
  here : ℕ
  here = line_of number start offset

  there : ℕ
  there = line_of other address place

  forth : (nat_le (point (line_of number start offset) start) (point (line_of other address place) address) && nat_lt (point (line_of other address place) address) (point (line_of number start offset) end)) ≡ true
      → (((nat_le start address && nat_lt address end) && (offset + (address - start) == place)) && (number == other)) ≡ true
  forth h =
      let tests = both _ _ h in
      let from = leb-true (point (line_of number start offset) start) (point (line_of other address place) address) tests.0 in
      let to = ltb-true (point (line_of other address place) address) (point (line_of number start offset) end) tests.1 in
      let line = same_line (line_of number start offset) (line_of other address place) start end address s t a from to in
      let same = same_number number other (start + 2 ^ 64 - offset) (address + 2 ^ 64 - place) (omega (s, arith)) (omega (a, arith)) line in
      let far : start + 2 ^ 64 - offset ≡ address + 2 ^ 64 - place = omega (same, line, arith) in
      let after : start ≤ address = omega (from, line, arith) in
      let before : address < end = omega (to, line, arith) in
      let at : offset + (address - start) ≡ place = omega (far, after, o, p, arith) in
      all_of _ _ (all_of _ _ (all_of _ _ (le-leb start address after) (lt-ltb address end before)) (eq-eqb (offset + (address - start)) place at)) (eq-eqb number other same)

  back : (((nat_le start address && nat_lt address end) && (offset + (address - start) == place)) && (number == other)) ≡ true
      → (nat_le (point (line_of number start offset) start) (point (line_of other address place) address) && nat_lt (point (line_of other address place) address) (point (line_of number start offset) end)) ≡ true
  back h =
      let tests = both _ _ h in
      let has = both _ _ tests.0 in
      let holds = both _ _ has.0 in
      let after = leb-true start address holds.0 in
      let before = ltb-true address end holds.1 in
      let at = eqb-true (offset + (address - start)) place has.1 in
      let same = eqb-true number other tests.1 in
      let far : start + 2 ^ 64 - offset ≡ address + 2 ^ 64 - place = omega (at, after, o, p, arith) in
      let line : line_of number start offset ≡ line_of other address place = omega (far, same, arith) in
      all_of _ _ (le-leb (point (line_of number start offset) start) (point (line_of other address place) address) (omega (line, after, arith)))
      (lt-ltb (point (line_of other address place) address) (point (line_of number start offset) end) (omega (line, before, arith)))

  pub place_of_entry : (nat_le (point (line_of number start offset) start) (point (line_of other address place) address) && nat_lt (point (line_of other address place) address) (point (line_of number start offset) end))
      ≡ (((nat_le start address && nat_lt address end) && (offset + (address - start) == place)) && (number == other))
  place_of_entry = same_test _ _ forth back

-- ---- the order of points
pub before_on_line : (l m s t : ℕ) → s < 2 ^ 64 → t < 2 ^ 64 → l < m → point l s < point m t
before_on_line l m s t a b lt = omega (a, b, lt, arith)

-- whether a stretch starts by a point
pub by_point : (l m s t : ℕ) → s < 2 ^ 64 → t < 2 ^ 64 → (nat_lt l m || ((l == m) && nat_le s t)) ≡ nat_le (point l s) (point m t)
by_point l m s t a b =
    elim (cases_lt l m) [
      | inl lt ↦ ap (λ (x : Bool). x || ((l == m) && nat_le s t)) (lt-ltb l m lt) ∙ sym (le-leb (point l s) (point m t) (omega (a, b, lt, arith)))
      | inr le ↦ ap (λ (x : Bool). x || ((l == m) && nat_le s t)) (le-ltb l m le) ∙ at_most le
    ]
  where
    at_most : m ≤ l → ((l == m) && nat_le s t) ≡ nat_le (point l s) (point m t)
    at_most le = same_test _ _
        (λ h. let tests = both _ _ h in
        let line = eqb-true l m tests.0 in
        let upto = leb-true s t tests.1 in
        le-leb (point l s) (point m t) (omega (line, upto, arith)))
        (λ h. let from = leb-true (point l s) (point m t) h in
        let line : l ≡ m = omega (from, le, a, b, arith) in
        all_of _ _ (eq-eqb l m line) (le-leb s t (omega (from, line, arith))))

-- whether the last stretch that starts by a point reaches beyond it
pub beyond_point : (l m s reach t : ℕ) → reach < 2 ^ 64 → t < 2 ^ 64 → s < 2 ^ 64 → point l s ≤ point m t → ((l == m) && nat_lt t reach) ≡ nat_lt (point m t) (point l reach)
beyond_point l m s reach t a b c from = same_test _ _
    (λ h. let tests = both _ _ h in
    let line = eqb-true l m tests.0 in
    let upto = ltb-true t reach tests.1 in
    lt-ltb (point m t) (point l reach) (omega (line, upto, arith)))
    (λ h. let to = ltb-true (point m t) (point l reach) h in
    let line : l ≡ m = omega (from, to, a, b, c, arith) in
    all_of _ _ (eq-eqb l m line) (lt-ltb t reach (omega (to, line, arith))))

-- the greatest end, with one stretch more: on the same line, and on a later one
pub max_end : (line end new at : ℕ) → nat_lt at (point line (max end new)) ≡ (nat_lt at (point line end) || nat_lt at (point line new))
max_end line end new at =
    elim (cases_lt at (point line end)) [
      | inl lt ↦ lt-ltb at (point line (max end new)) (omega (lt, arith)) ∙ sym (ap (λ (x : Bool). x || nat_lt at (point line new)) (lt-ltb at (point line end) lt))
      | inr le ↦ rest le ∙ sym (ap (λ (x : Bool). x || nat_lt at (point line new)) (le-ltb at (point line end) le))
    ]
  where
    rest : point line end ≤ at → nat_lt at (point line (max end new)) ≡ nat_lt at (point line new)
    rest le = same_test _ _
        (λ h. let to = ltb-true at (point line (max end new)) h in lt-ltb at (point line new) (omega (to, le, arith)))
        (λ h. let to = ltb-true at (point line new) h in lt-ltb at (point line (max end new)) (omega (to, arith)))

pub later_end : (line later end start new at : ℕ) → end < 2 ^ 64 → line < later → nat_lt at (point later new) ≡ (nat_lt at (point line end) || nat_lt at (point later new))
later_end line later end start new at e lt =
    elim (cases_lt at (point line end)) [
      | inl before ↦ lt-ltb at (point later new) (omega (before, e, lt, arith)) ∙ sym (ap (λ (x : Bool). x || nat_lt at (point later new)) (lt-ltb at (point line end) before))
      | inr le ↦ sym (ap (λ (x : Bool). x || nat_lt at (point later new)) (le-ltb at (point line end) le))
    ]

-- the order of points of two lines is that of the lines
pub other_lines : (l m s t : ℕ) → s < 2 ^ 64 → t < 2 ^ 64 → (nat_cmp l m ≡ Equal → ⊥) → nat_cmp l m ≡ nat_cmp (point l s) (point m t)
other_lines l m s t a b differ =
    elim (cases_lt l m) [
      | inl lt ↦ sym (nat_cmp_is l m Less lt) ∙ nat_cmp_is (point l s) (point m t) Less (omega (lt, a, b, arith))
      | inr le ↦ at_most le (cases_lt m l)
    ]
  where
    at_most : m ≤ l → (m < l) ⊎ (l ≤ m) → nat_cmp l m ≡ nat_cmp (point l s) (point m t)
    at_most le (inl gt) = sym (nat_cmp_is l m Greater gt) ∙ nat_cmp_is (point l s) (point m t) Greater (omega (gt, a, b, arith))
    at_most le (inr ge) = absurd (differ (sym (nat_cmp_is l m Equal (omega (le, ge, arith)))))
