-- The module that has an address in its range, by the last module that starts by then.
use Rattle.std.specs.Prelude.{nat_le, nat_lt, ◌&&◌}
use Rattle.std.specs.List.{find}
use Rattle.std.specs.List.Sorted.{IsPartitionPoint, IsPartitionedBy}
use Rattle.std.proofs.Common.{◌≡◌, ℕ, ◌+◌, ◌-◌, ◌<◌, ◌≤◌, Bool, true, false, List, length, get_or, Option, Some, None, refl, sym, ap, subst, ◌∙◌, arith, ◌⊎◌, inl, inr, leb-true}
use Rattle.std.proofs.lemmas.Bool.{le-ltb, cases_lt}
use Rattle.std.proofs.lemmas.List.{get_or_default}
use Rattle.std.proofs.lemmas.List.Sorted.{IsNonDecreasingBy-from_all_adjacent, IsPartitionedBy-leb}
use Rattle.sf_decode.specs.declared.view.View.{View}
use Rattle.sf_decode.specs.Kept.{functions_lent, functions_shown}
use Rattle.sf_lookup.proofs.Numbered.{first_passes, none_passes}
use Rattle.sf_c.specs.declared.modules.KiblawenModule.{KiblawenModule}
use Rattle.sf_c.specs.Modules.{ModulesRise, functions_if_found, module_contains}

-- the modules that start by an address are the first ones
pub starts_parted : (modules : List KiblawenModule) (address : ℕ) → ModulesRise modules → IsPartitionedBy (λ (m : KiblawenModule). nat_le m.start address) modules
starts_parted modules address order =
    IsPartitionedBy-leb (λ (m : KiblawenModule). m.start) modules address
    (IsNonDecreasingBy-from_all_adjacent (λ (m : KiblawenModule). m.start) modules (λ k d lt. let one = order k d lt in omega (one, arith)))

-- how many modules start by an address
abbrev pub Reaches : List KiblawenModule → (address reached : ℕ) → Type 0
Reaches modules address reached =
    IsPartitionPoint (λ (m : KiblawenModule). nat_le m.start address ≡ true) (λ (m : KiblawenModule). nat_le m.start address ≡ false) modules reached

-- a module ends where a later one starts, or before
ends_before : (modules : List KiblawenModule) → ModulesRise modules → (i j : ℕ) (d : KiblawenModule) → i < j → j < length modules
    → (get_or modules i d).start + (get_or modules i d).size ≤ (get_or modules j d).start
ends_before modules order i j d lt within =
    let one = order i d (omega (lt, within, arith)) in
    let on = IsNonDecreasingBy-from_all_adjacent (λ (m : KiblawenModule). m.start) modules (λ k e l. let next = order k e l in omega (next, arith)) (i + 1) j d (omega (lt, arith)) within in
    omega (one, on, arith)

and_false : (b : Bool) → (b && false) ≡ false
and_false true = refl
and_false false = refl

pub starts_after : (address : ℕ) (m : KiblawenModule) → nat_le m.start address ≡ false → module_contains address m ≡ false
starts_after address m e = ap (λ (b : Bool). b && nat_lt address (m.start + m.size)) e

pub ends_by : (address : ℕ) (m : KiblawenModule) → m.start + m.size ≤ address → module_contains address m ≡ false
ends_by address m le = ap (λ (b : Bool). nat_le m.start address && b) (le-ltb address (m.start + m.size) le) ∙ and_false (nat_le m.start address)

-- no module starts by the address
pub none_starts : (modules : List KiblawenModule) (address : ℕ) → Reaches modules address 0 → find (module_contains address) modules ≡ None
none_starts modules address point = none_passes (module_contains address) modules (λ k d lt. starts_after address (get_or modules k d) (point.1 k d (omega arith) lt))

-- the last module that starts by the address is the one that has it, or none does
last_has : (modules : List KiblawenModule) (address reached : ℕ) (m : KiblawenModule) → ModulesRise modules → Reaches modules address reached → 0 < reached → reached ≤ length modules
    → get_or modules (reached - 1) m ≡ m → module_contains address m ≡ true → find (module_contains address) modules ≡ Some m
last_has modules address reached m order point some within at t =
    first_passes (module_contains address) modules (reached - 1) m (omega (some, within, arith)) (λ k e before.
    let ends = ends_before modules order k (reached - 1) e before (omega (some, within, arith)) in
    let begun = point.0 (reached - 1) e (omega arith) (omega (some, arith)) in
    ends_by address (get_or modules k e) (omega (ends, leb-true _ _ begun, arith))) (ap (module_contains address) at ∙ t) ∙ ap Some at

last_has_not : (modules : List KiblawenModule) (address reached : ℕ) (m : KiblawenModule) → ModulesRise modules → Reaches modules address reached → 0 < reached → reached ≤ length modules
    → get_or modules (reached - 1) m ≡ m → module_contains address m ≡ false → find (module_contains address) modules ≡ None
last_has_not modules address reached m order point some within at t = none_passes (module_contains address) modules (λ k d lt. by_place k d lt (cases_lt k reached))
  where
    at_last : (k : ℕ) (d : KiblawenModule) → k < reached → (k < reached - 1) ⊎ (reached - 1 ≤ k) → module_contains address (get_or modules k d) ≡ false
    at_last k d lt (inl before) =
        let ends = ends_before modules order k (reached - 1) d before (omega (some, within, arith)) in
        let begun = point.0 (reached - 1) d (omega arith) (omega (some, arith)) in
        ends_by address (get_or modules k d) (omega (ends, leb-true _ _ begun, arith))
    at_last k d lt (inr le) =
        let same : reached - 1 ≡ k = omega (le, lt, arith) in
        subst (λ j. module_contains address (get_or modules j d) ≡ false) same (ap (module_contains address) (get_or_default modules (reached - 1) d m (omega (some, within, arith)) ∙ at) ∙ t)

    by_place : (k : ℕ) (d : KiblawenModule) → k < length modules → (k < reached) ⊎ (reached ≤ k) → module_contains address (get_or modules k d) ≡ false
    by_place k d lt (inl before) = at_last k d before (cases_lt k (reached - 1))
    by_place k d lt (inr le) = starts_after address (get_or modules k d) (point.1 k d le lt)

-- the functions at an address, by the last module that starts by then
pub answers_none : (modules : List KiblawenModule) (address reached : ℕ) → Reaches modules address reached → reached ≡ 0
    → functions_shown None ≡ functions_if_found (find (module_contains address) modules)
answers_none modules address reached point none =
    ap functions_if_found (sym (none_starts modules address (subst (λ (n : ℕ). Reaches modules address n) none point)))

-- the module with a number in the list
at_itself : (modules : List KiblawenModule) (i : ℕ) (d : KiblawenModule) → i < length modules → get_or modules i (get_or modules i d) ≡ get_or modules i d
at_itself modules i d lt = get_or_default modules i (get_or modules i d) d lt

pub answers_last : (modules : List KiblawenModule) (address reached : ℕ) (d : KiblawenModule) (v : Option View) → ModulesRise modules → Reaches modules address reached → 0 < reached
    → reached ≤ length modules → module_contains address (get_or modules (reached - 1) d) ≡ true → functions_shown v ≡ functions_lent (get_or modules (reached - 1) d).section
    → functions_shown v ≡ functions_if_found (find (module_contains address) modules)
answers_last modules address reached d v order point some within t e =
    let at = at_itself modules (reached - 1) d (omega (some, within, arith)) in
    e ∙ ap functions_if_found (sym (last_has modules address reached (get_or modules (reached - 1) d) order point some within at t))

pub answers_not : (modules : List KiblawenModule) (address reached : ℕ) (d : KiblawenModule) → ModulesRise modules → Reaches modules address reached → 0 < reached
    → reached ≤ length modules → module_contains address (get_or modules (reached - 1) d) ≡ false → functions_shown None ≡ functions_if_found (find (module_contains address) modules)
answers_not modules address reached d order point some within t =
    let at = at_itself modules (reached - 1) d (omega (some, within, arith)) in
    ap functions_if_found (sym (last_has_not modules address reached (get_or modules (reached - 1) d) order point some within at t))
