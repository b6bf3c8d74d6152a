-- Modules are in order without overlapping exactly where no two of them overlap.
use Rattle.std.specs.Prelude.{◌==◌}
use Rattle.std.specs.List.{Contains}
use Rattle.std.proofs.Common.{◌≡◌, ℕ, ◌+◌, ◌<◌, ◌≤◌, List, length, get_or, sym, ap, subst, ◌∙◌, arith, ◌⊎◌, inl, inr}
use Rattle.std.proofs.lemmas.Bool.{cases_lt, eqb-false}
use Rattle.std.proofs.lemmas.List.{get_or_default}
use Rattle.std.proofs.lemmas.Map.Keys.{apart_from_distinct}
use Rattle.sf_c.specs.declared.modules.KiblawenModule.{KiblawenModule}
use Rattle.sf_c.specs.Order.{AreApart, AreByStart, AreDisjoint, Differ, IsIndex, module_start, order_key, size_in}
use Rattle.sf_c.proofs.Ordered.{empty_by_key, ends_before, key_least, key_most, key_of_empty}

-- the module at a place of an index ends where the one at a later place starts, or before
ends_by_start : (modules : List KiblawenModule) (order : List ℕ) → IsIndex modules order → (p q i j : ℕ) → p < q → q < length order → get_or order p i ≡ i → get_or order q j ≡ j
    → module_start modules i + size_in modules i ≤ module_start modules j
ends_by_start modules order index p q i j before within at_p at_q =
    let ends = ends_before modules order index p q i before within in
    let other : get_or order q i ≡ j = get_or_default order q i j within ∙ at_q in
    subst (λ (n : ℕ). module_start modules i + size_in modules i ≤ module_start modules n) other
    (subst (λ (n : ℕ). module_start modules n + size_in modules n ≤ module_start modules (get_or order q i)) at_p ends)

pub apart_from_index : (modules : List KiblawenModule) (order : List ℕ) → IsIndex modules order → AreApart modules
apart_from_index modules order index i j lt within (one, other) = by (index.0.all i (omega (lt, within, arith))) (index.0.all j within)
  where
    placed : (p q : ℕ) → p < length order → q < length order → get_or order p i ≡ i → get_or order q j ≡ j → (p < q) ⊎ (q ≤ p) → (q < p) ⊎ (p ≤ q) → ⊥
    placed p q in_p in_q at_p at_q (inl before) upto =
        let ends = ends_by_start modules order index p q i j before in_q at_p at_q in omega (ends, other, arith)
    placed p q in_p in_q at_p at_q (inr from) (inl after) =
        let ends = ends_by_start modules order index q p j i after in_p at_q at_p in omega (ends, one, arith)
    placed p q in_p in_q at_p at_q (inr from) (inr upto) =
        let here : p ≡ q = omega (from, upto, arith) in
        let same : i ≡ j = sym at_p ∙ ap (λ (n : ℕ). get_or order n i) here ∙ get_or_default order q i j in_q ∙ at_q in
        omega (same, lt, arith)

    by : Contains order i → Contains order j → ⊥
    by (p, in_p, at_p) (q, in_q, at_q) = placed p q in_p in_q at_p at_q (cases_lt p q) (cases_lt q p)

-- two modules that are apart and in order
ends_first : (modules : List KiblawenModule) (a b : ℕ) → AreApart modules → a < length modules → b < length modules → (a ≡ b → ⊥) → order_key modules a ≤ order_key modules b
    → module_start modules a + size_in modules a ≤ module_start modules b
ends_first modules a b apart in_a in_b differ rise = by (cases_lt (module_start modules b) (module_start modules a + size_in modules a)) (cases_lt (module_start modules a) (module_start modules b + size_in modules b)) (cases_lt a b) (cases_lt b a)
  where
    by : (module_start modules b < module_start modules a + size_in modules a) ⊎ (module_start modules a + size_in modules a ≤ module_start modules b)
        → (module_start modules a < module_start modules b + size_in modules b) ⊎ (module_start modules b + size_in modules b ≤ module_start modules a)
        → (a < b) ⊎ (b ≤ a) → (b < a) ⊎ (a ≤ b) → module_start modules a + size_in modules a ≤ module_start modules b
    by (inr ends) one lt gt = ends
    by (inl over) (inl one) (inl lt) gt = absurd (apart a b lt in_b (one, over))
    by (inl over) (inl one) (inr le) (inl gt) = absurd (apart b a gt in_a (over, one))
    by (inl over) (inl one) (inr le) (inr ge) = absurd (differ (omega (le, ge, arith)))
    by (inl over) (inr before) lt gt =
        let least = key_least modules a in
        let most = key_most modules b in
        let empty : size_in modules b ≡ 0 = omega (before, rise, least, most, arith) in
        let key = key_of_empty modules b empty in
        let none = empty_by_key modules a (omega (key, rise, before, empty, least, arith)) in
        absurd (omega (none, over, before, empty, key, rise, least, arith))

pub disjoint_from_apart : (modules : List KiblawenModule) (order : List ℕ) → AreByStart modules order → Differ order → AreApart modules → AreDisjoint modules order
disjoint_from_apart modules order by_start differ apart k d lt =
    ends_first modules (get_or order k d) (get_or order (k + 1) d) apart (by_start.each k d (omega (lt, arith))) (by_start.each (k + 1) d lt)
    (λ same. eqb-false (get_or order k d) (get_or order (k + 1) d) (apart_from_distinct (λ (i : ℕ) (j : ℕ). i == j) order k (k + 1) d differ (omega arith) lt) same)
    (by_start.rise k (k + 1) d (omega arith) lt)
