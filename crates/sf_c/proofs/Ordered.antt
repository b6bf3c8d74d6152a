-- The module that has an address, by an index of modules in any order.
use Rattle.std.specs.Prelude.{◌==◌, nat_le, if◌then◌else◌}
use Rattle.std.specs.List.{Contains, find, position_or_len, slice_get}
use Rattle.std.specs.List.Sorted.{IsNonDecreasingBy, IsPartitionPoint, IsPartitionedBy, IsPermutation}
use Rattle.std.proofs.Common.{◌≡◌, ℕ, zero, suc, ◌+◌, ◌*◌, ◌-◌, ◌<◌, ◌≤◌, Bool, true, false, List, [], ◌∷◌, length, get_or, Option, Some, None, refl, sym, ap, subst, ◌∙◌, arith, ◌⊎◌, inl, inr, leb-true}
use Rattle.std.proofs.Math.Logic.{∥∥₁_elim}
use Rattle.std.proofs.Props.{props}
use Rattle.std.proofs.lemmas.Bool.{cases_lt, eq-eqb, eqb-false, eqb-true, ne_eqb}
use Rattle.std.proofs.lemmas.List.{get_or_default}
use Rattle.std.proofs.lemmas.List.Sorted.{All-permutation, Contains-permutation, IsPartitionedBy-leb}
use Rattle.std.proofs.lemmas.List.Sums.{position_or_len_is}
use Rattle.std.proofs.lemmas.Map.Keys.{IsDistinct-IsPermutation, IsDistinct-from_apart}
use Rattle.sf_model.specs.Lookup.{found_at}
use Rattle.sample_walk.specs.declared.rule.Rule.{Rule}
use Rattle.sample_walk.specs.Cache.{located_by}
use Rattle.sample_walk.specs.Step.{rules_by}
use Rattle.sf_c.specs.declared.modules.KiblawenModule.{KiblawenModule}
use Rattle.sf_c.specs.Modules.{functions_if_found, module_contains, module_row}
use Rattle.sf_c.specs.Section.{section_row}
use Rattle.sf_c.specs.Order.{AreByStart, Differ, IsIndex, index_in, size_in, module_start, order_key}
use Rattle.sf_c.proofs.Reached.{ends_by, starts_after}

-- ---- modules by their indices
pub start_is : (modules : List KiblawenModule) (k : ℕ) (d : KiblawenModule) → k < length modules → (get_or modules k d).start ≡ module_start modules k
start_is [] k d lt = absurd (omega (lt, arith))
start_is (m ∷ modules) zero d lt = refl
start_is (m ∷ modules) (suc k) d lt = start_is modules k d (omega (lt, arith))

pub size_is : (modules : List KiblawenModule) (k : ℕ) (d : KiblawenModule) → k < length modules → (get_or modules k d).size ≡ size_in modules k
size_is [] k d lt = absurd (omega (lt, arith))
size_is (m ∷ modules) zero d lt = refl
size_is (m ∷ modules) (suc k) d lt = size_is modules k d (omega (lt, arith))

pub start_past : (modules : List KiblawenModule) (k : ℕ) → length modules ≤ k → 0 ≡ module_start modules k
start_past [] k le = refl
start_past (m ∷ modules) zero le = absurd (omega (le, arith))
start_past (m ∷ modules) (suc k) le = start_past modules k (omega (le, arith))

pub size_past : (modules : List KiblawenModule) (k : ℕ) → length modules ≤ k → 0 ≡ size_in modules k
size_past [] k le = refl
size_past (m ∷ modules) zero le = absurd (omega (le, arith))
size_past (m ∷ modules) (suc k) le = size_past modules k (omega (le, arith))

pub start_got : (modules : List KiblawenModule) (k : ℕ) (m : KiblawenModule) → k < length modules → m ≡ get_or modules k m → m.start ≡ module_start modules k
start_got modules k m lt is = ap (λ (x : KiblawenModule). x.start) is ∙ start_is modules k m lt

pub size_got : (modules : List KiblawenModule) (k : ℕ) (m : KiblawenModule) → k < length modules → m ≡ get_or modules k m → m.size ≡ size_in modules k
size_got modules k m lt is = ap (λ (x : KiblawenModule). x.size) is ∙ size_is modules k m lt

-- ---- the indices, put in order
pub put_by_start : (modules : List KiblawenModule) (order new : List ℕ) → length order ≡ length modules → ((k d : ℕ) → k < length order → get_or order k d ≡ k) → IsPermutation order new → length new ≡ length order
    → IsNonDecreasingBy (order_key modules) new → AreByStart modules new
put_by_start modules order new many itself moved len rise = record {
  rise = rise;
  each = All-permutation (λ (k : ℕ). k < length modules) order new moved (λ k d lt. let same = itself k d lt in omega (same, lt, many, arith));
  all = λ k lt. Contains-permutation order new k moved (k, omega (lt, many, arith), itself k k (omega (lt, many, arith)));
  as_many = len ∙ many;
}

pub differ_put : (order new : List ℕ) → ((k d : ℕ) → k < length order → get_or order k d ≡ k) → IsPermutation order new → Differ new
differ_put order new itself moved =
    IsDistinct-IsPermutation (λ (i : ℕ) (j : ℕ). i == j) flips order new moved
    (IsDistinct-from_apart (λ (i : ℕ) (j : ℕ). i == j) order
    (λ i j d lt within.
    let one = itself i d (omega (lt, within, arith)) in
    let other = itself j d within in
    ne_eqb (get_or order i d) (get_or order j d) (λ same. omega (one, other, same, lt, arith))))
  where
    by : (i j : ℕ) (b : Bool) → (i == j) ≡ b → (i == j) ≡ (j == i)
    by i j true e = e ∙ sym (eq-eqb j i (sym (eqb-true i j e)))
    by i j false e = e ∙ sym (ne_eqb j i (λ same. eqb-false i j e (sym same)))

    flips : (i j : ℕ) → (i == j) ≡ (j == i)
    flips i j = by i j (i == j) refl

-- ---- keys
at_most_one : (b : Bool) → (if b then 0 else 1) ≤ 1
at_most_one true = omega arith
at_most_one false = omega arith

pub key_least : (modules : List KiblawenModule) (k : ℕ) → 2 * module_start modules k ≤ order_key modules k
key_least modules k = omega arith

pub key_most : (modules : List KiblawenModule) (k : ℕ) → order_key modules k ≤ 2 * module_start modules k + 1
key_most modules k = let small = at_most_one (size_in modules k == 0) in omega (small, arith)

pub key_of_empty : (modules : List KiblawenModule) (k : ℕ) → size_in modules k ≡ 0 → order_key modules k ≡ 2 * module_start modules k
key_of_empty modules k e = rw e (omega arith)

pub empty_by_key : (modules : List KiblawenModule) (k : ℕ) → order_key modules k ≤ 2 * module_start modules k → size_in modules k ≡ 0
empty_by_key modules k = by (size_in modules k == 0) refl
  where
    by : (b : Bool) → (size_in modules k == 0) ≡ b → 2 * module_start modules k + (if b then 0 else 1) ≤ 2 * module_start modules k → size_in modules k ≡ 0
    by true e le = eqb-true (size_in modules k) 0 e
    by false e le = absurd (omega (le, arith))

starts_rise : (modules : List KiblawenModule) (order : List ℕ) → AreByStart modules order → IsNonDecreasingBy (module_start modules) order
starts_rise modules order by_start i j d le within =
    let rise = by_start.rise i j d le within in
    let least = key_least modules (get_or order i d) in
    let most = key_most modules (get_or order j d) in
    omega (rise, least, most, arith)

-- ---- the search
-- what follows from an index, where it is only known that there is one
pub by_index : (modules : List KiblawenModule) (order : List ℕ) (a b : ℕ) → ∥ IsIndex modules order ∥₁ → (IsIndex modules order → a ≡ b) → a ≡ b
by_index modules order a b index h = ∥∥₁_elim index (Prim.hlevel props) h

-- how many modules in order start by an address
abbrev pub Reaches : List KiblawenModule → (order : List ℕ) → (address reached : ℕ) → Type 0
Reaches modules order address reached = IsPartitionPoint (λ (k : ℕ). nat_le (module_start modules k) address ≡ true) (λ (k : ℕ). nat_le (module_start modules k) address ≡ false) order reached

pub starts_parted : (modules : List KiblawenModule) (order : List ℕ) (address : ℕ) → IsIndex modules order → IsPartitionedBy (λ (k : ℕ). nat_le (module_start modules k) address) order
starts_parted modules order address index = IsPartitionedBy-leb (module_start modules) order address (starts_rise modules order index.0)

-- a module that starts after the address, or ends by it, does not have it
after_fails : (modules : List KiblawenModule) (address k : ℕ) (d : KiblawenModule) → k < length modules → nat_le (module_start modules k) address ≡ false → module_contains address (get_or modules k d) ≡ false
after_fails modules address k d lt e = starts_after address (get_or modules k d) (ap (λ (n : ℕ). nat_le n address) (start_is modules k d lt) ∙ e)

before_fails : (modules : List KiblawenModule) (address k : ℕ) (d : KiblawenModule) → k < length modules → module_start modules k + size_in modules k ≤ address → module_contains address (get_or modules k d) ≡ false
before_fails modules address k d lt le =
    let start = start_is modules k d lt in
    let size = size_is modules k d lt in
    ends_by address (get_or modules k d) (omega (start, size, le, arith))

-- a module ends where a later one in order starts, or before
pub ends_before : (modules : List KiblawenModule) (order : List ℕ) → IsIndex modules order → (i j d : ℕ) → i < j → j < length order
    → module_start modules (get_or order i d) + size_in modules (get_or order i d) ≤ module_start modules (get_or order j d)
ends_before modules order index i j d lt within =
    let one = index.1 i d (omega (lt, within, arith)) in
    let on = starts_rise modules order index.0 (i + 1) j d (omega (lt, arith)) within in
    omega (one, on, arith)

-- no module starts by the address
pub none_has : (modules : List KiblawenModule) (order : List ℕ) (address reached : ℕ) → IsIndex modules order → Reaches modules order address reached → reached ≡ 0 → length modules ≡ index_in modules address
none_has [] order address reached index point none = refl
none_has (m ∷ modules) order address reached index point none =
    sym (position_or_len_is (module_contains address) (m ∷ modules) (length (m ∷ modules)) m (omega arith) fails (λ lt. absurd (omega (lt, arith))))
  where
    fails : (k : ℕ) → k < length (m ∷ modules) → module_contains address (get_or (m ∷ modules) k m) ≡ false
    fails k lt = by (index.0.all k lt)
      where
        by : Contains order k → module_contains address (get_or (m ∷ modules) k m) ≡ false
        by (p, within, is) =
            after_fails (m ∷ modules) address k m lt
            (subst (λ (n : ℕ). nat_le (module_start (m ∷ modules) n) address ≡ false) is (point.1 p k (omega (none, arith)) within))

-- all modules but the last one in order that starts by the address do not have it
others_fail : (modules : List KiblawenModule) (order : List ℕ) (address reached last : ℕ) → IsIndex modules order → Reaches modules order address reached → 0 < reached → reached ≤ length order
    → get_or order (reached - 1) last ≡ last → (k : ℕ) (d : KiblawenModule) → k < length modules → (k ≡ last) ⊎ (module_contains address (get_or modules k d) ≡ false)
others_fail modules order address reached last index point some most is k d lt = by (index.0.all k lt)
  where
    place : (p : ℕ) → p < length order → get_or order p k ≡ k → (p < reached - 1) ⊎ (reached - 1 ≤ p) → (p < reached) ⊎ (reached ≤ p) → (k ≡ last) ⊎ (module_contains address (get_or modules k d) ≡ false)
    place p within at (inl before) upto =
        let ends = ends_before modules order index p (reached - 1) k before (omega (some, most, arith)) in
        let begun = point.0 (reached - 1) k (omega arith) (omega (some, arith)) in
        let end : module_start modules k + size_in modules k ≤ module_start modules (get_or order (reached - 1) k) =
        subst (λ (n : ℕ). module_start modules n + size_in modules n ≤ module_start modules (get_or order (reached - 1) k)) at ends in
        inr (before_fails modules address k d lt (omega (end, leb-true _ _ begun, arith)))
    place p within at (inr from) (inl upto) =
        let here : p ≡ reached - 1 = omega (from, upto, arith) in
        inl (sym at ∙ ap (λ (n : ℕ). get_or order n k) here ∙ get_or_default order (reached - 1) k last (omega (some, most, arith)) ∙ is)
    place p within at (inr from) (inr after) =
        inr (after_fails modules address k d lt (subst (λ (n : ℕ). nat_le (module_start modules n) address ≡ false) at (point.1 p k after within)))

    by : Contains order k → (k ≡ last) ⊎ (module_contains address (get_or modules k d) ≡ false)
    by (p, within, at) = place p within at (cases_lt p (reached - 1)) (cases_lt p reached)

pub last_has : (modules : List KiblawenModule) (order : List ℕ) (address reached last : ℕ) (m : KiblawenModule) → IsIndex modules order → Reaches modules order address reached → 0 < reached → reached ≤ length order
    → get_or order (reached - 1) last ≡ last → last < length modules → get_or modules last m ≡ m → module_contains address m ≡ true → last ≡ index_in modules address
last_has modules order address reached last m index point some most is within at t =
    sym (position_or_len_is (module_contains address) modules last m (omega (within, arith)) (λ k before. by k before (others_fail modules order address reached last index point some most is k m (omega (before, within, arith))))
    (λ lt. ap (module_contains address) at ∙ t))
  where
    by : (k : ℕ) → k < last → (k ≡ last) ⊎ (module_contains address (get_or modules k m) ≡ false) → module_contains address (get_or modules k m) ≡ false
    by k before (inl same) = absurd (omega (before, same, arith))
    by k before (inr fails) = fails

pub last_has_not : (modules : List KiblawenModule) (order : List ℕ) (address reached last : ℕ) (m : KiblawenModule) → IsIndex modules order → Reaches modules order address reached → 0 < reached → reached ≤ length order
    → get_or order (reached - 1) last ≡ last → get_or modules last m ≡ m → module_contains address m ≡ false → length modules ≡ index_in modules address
last_has_not modules order address reached last m index point some most is at t =
    sym (position_or_len_is (module_contains address) modules (length modules) m (omega arith) (λ k lt. by k (others_fail modules order address reached last index point some most is k m lt)) (λ lt. absurd (omega (lt, arith))))
  where
    by : (k : ℕ) → (k ≡ last) ⊎ (module_contains address (get_or modules k m) ≡ false) → module_contains address (get_or modules k m) ≡ false
    by k (inl same) = ap (λ (n : ℕ). module_contains address (get_or modules n m)) same ∙ ap (module_contains address) at ∙ t
    by k (inr fails) = fails

-- each place of an index has the index of a module
pub past_fails : (modules : List KiblawenModule) (order : List ℕ) (address reached : ℕ) → IsIndex modules order → 0 < reached → reached ≤ length order → length modules ≤ get_or order (reached - 1) 0
    → length modules ≡ index_in modules address
past_fails modules order address reached index some most le = absurd (let lt = index.0.each (reached - 1) 0 (omega (some, most, arith)) in omega (lt, le, arith))

-- ---- the module that is found, by its index
pub found_by_index : {X : Type 0} (p : X → Bool) (xs : List X) → find p xs ≡ slice_get xs (position_or_len p xs)
found_by_index p [] = refl
found_by_index {X} p (x ∷ xs) = by (p x) refl (found_by_index p xs)
  where
    by : (b : Bool) → p x ≡ b → find p xs ≡ slice_get xs (position_or_len p xs) → find p (x ∷ xs) ≡ slice_get (x ∷ xs) (position_or_len p (x ∷ xs))
    by true e h = rw e refl
    by false e h = let one : suc (position_or_len p xs) ≡ 1 + position_or_len p xs = omega arith in rw e (h ∙ ap (slice_get (x ∷ xs)) one)

slice_got : {X : Type 0} (xs : List X) (i : ℕ) (d : X) → i < length xs → slice_get xs i ≡ Some (get_or xs i d)
slice_got [] i d lt = absurd (omega (lt, arith))
slice_got (x ∷ xs) zero d lt = refl
slice_got (x ∷ xs) (suc i) d lt = slice_got xs i d (omega (lt, arith))

slice_past : {X : Type 0} (xs : List X) (i : ℕ) → length xs ≤ i → slice_get xs i ≡ None
slice_past [] i le = refl
slice_past (x ∷ xs) zero le = absurd (omega (le, arith))
slice_past (x ∷ xs) (suc i) le = slice_past xs i (omega (le, arith))

-- the row at an address, by a module if there is one
abbrev row_by : Option KiblawenModule → (address : ℕ) → Option Rule
row_by found address = rules_by (found_at (functions_if_found found)) address

pub rule_found : (modules : List KiblawenModule) (address index : ℕ) (m : KiblawenModule) (rule : Option Rule) → index ≡ index_in modules address → index < length modules → m ≡ get_or modules index m
    → rule ≡ rules_by (section_row m.section) address → record { index = index; rule = rule } ≡ located_by (module_row modules) (index_in modules) address
rule_found modules address index m rule e lt is h =
    let found : find (module_contains address) modules ≡ Some m =
    found_by_index (module_contains address) modules ∙ ap (slice_get modules) (sym e) ∙ slice_got modules index m lt ∙ ap Some (sym is) in
    ap (λ (n : ℕ). record { index = n; rule = rule }) e
    ∙ ap (λ (r : Option Rule). record { index = index_in modules address; rule = r }) (h ∙ ap (λ (o : Option KiblawenModule). row_by o address) (sym found))

no_row : (address : ℕ) → row_by None address ≡ None
unfolding found_at
no_row address = refl

pub no_rule_found : (modules : List KiblawenModule) (address index : ℕ) → index ≡ index_in modules address → length modules ≤ index
    → record { index = index; rule = None } ≡ located_by (module_row modules) (index_in modules) address
no_rule_found modules address index e le =
    let found : find (module_contains address) modules ≡ None = found_by_index (module_contains address) modules ∙ ap (slice_get modules) (sym e) ∙ slice_past modules index le in
    ap (λ (n : ℕ). record { index = n; rule = None }) e
    ∙ ap (λ (r : Option Rule). record { index = index_in modules address; rule = r }) (sym (no_row address) ∙ ap (λ (o : Option KiblawenModule). row_by o address) (sym found))
