-- What the last start at or below an address means for functions that stand apart.
use Rattle.std.specs.Prelude.{nat_le, ◌&&◌, slice_index}
use Rattle.std.specs.List.{find}
use Rattle.std.specs.Bool.{then_some}
use Rattle.std.specs.Option.{IfSome, option_map}
use Rattle.std.proofs.Common.{◌≡◌, ℕ, ◌+◌, ◌<◌, ◌≤◌, ◌*◌, ◌^◌, Bool, true, false, List, [], length, get_or, Option, Some, None, refl, sym, ap, subst, ◌∙◌, arith, ◌⊎◌, inl, inr}
use Rattle.std.proofs.lemmas.Bool.{lt-leb, le-ltb, cases_lt}
use Rattle.std.proofs.lemmas.List.{get_or-map, length-map}
use Rattle.std.proofs.lemmas.List.Sorted.{IsNonDecreasingBy-from_all_adjacent}
use Rattle.sf_model.specs.declared.machine.Key.TheVariants.{A}
use Rattle.sf_model.specs.declared.function.Shape.TheVariants.{Plain}
use Rattle.sf_model.specs.declared.function.Func.{Func}
use Rattle.sf_model.specs.Lookup.{contains}
use Rattle.sf_lookup.specs.Steps.{IsWithinDigits}
use Rattle.sf_lookup.specs.Starts.{Apart, starts_of, NeverFall, IsLastStart}
use Rattle.sf_lookup.proofs.Numbered.{none_passes, first_passes}

pub start_is : (functions : List Func) (i : ℕ) (d : Func) → i < length functions → slice_index (starts_of functions) i ≡ (get_or functions i d).start
start_is functions i d lt = get_or-map (λ (f : Func). f.start) functions i d 0 lt

pub starts_length : (functions : List Func) → length (starts_of functions) ≡ length functions
starts_length functions = length-map functions (λ (f : Func). f.start)

-- no later start is below
start_rises : (functions : List Func) → Apart functions → (i j : ℕ) (d : Func) → i ≤ j → j < length functions → (get_or functions i d).start ≤ (get_or functions j d).start
start_rises functions apart = IsNonDecreasingBy-from_all_adjacent (λ (f : Func). f.start) functions (λ k d lt. let one = apart k d lt in omega (one, arith))

-- a function ends where a later one starts, or before
ends_before : (functions : List Func) → Apart functions → (i j : ℕ) (d : Func) → i < j → j < length functions → (get_or functions i d).start + (get_or functions i d).size ≤ (get_or functions j d).start
ends_before functions apart i j d lt within =
    let one = apart i d (omega (lt, within, arith)) in
    let on = start_rises functions apart (i + 1) j d (omega (lt, arith)) within in
    omega (one, on, arith)

none_such : Func
none_such = record { start = 0; size = 0; shape = Plain; key = A; rows = [] }

pub never_fall : (functions : List Func) → Apart functions → NeverFall (starts_of functions)
never_fall functions apart k d lt =
    let here = get_or-map (λ (f : Func). f.start) functions k none_such d (omega (lt, starts_length functions, arith)) in
    let next = get_or-map (λ (f : Func). f.start) functions (k + 1) none_such d (omega (lt, starts_length functions, arith)) in
    let one = apart k none_such (omega (lt, starts_length functions, arith)) in
    omega (here, next, one, arith)

-- a function that starts after the address, or ends at or before it, does not contain it
starts_behind : (pc : ℕ) (f : Func) → pc < f.start → contains pc f ≡ false
starts_behind pc f lt = rw (lt-leb f.start pc lt) refl

ends_by : (pc : ℕ) (f : Func) → f.start + f.size ≤ pc → contains pc f ≡ false
ends_by pc f le = rw (le-ltb pc (f.start + f.size) le) (and_false (nat_le f.start pc))
  where
    and_false : (b : Bool) → (b && false) ≡ false
    and_false true = refl
    and_false false = refl

-- no function but the last that starts by the address contains it
pub none_reached : (functions : List Func) (pc : ℕ) → IsLastStart (starts_of functions) pc None → find (contains pc) functions ≡ None
none_reached functions pc h = none_passes (contains pc) functions (λ k d lt.
    let start = start_is functions k d lt in
    let behind = h k (omega (lt, starts_length functions, arith)) in
    starts_behind pc (get_or functions k d) (omega (start, behind, arith)))

last_contains : (functions : List Func) (pc i : ℕ) (f : Func) → Apart functions → IsLastStart (starts_of functions) pc (Some i) → get_or functions i f ≡ f → contains pc f ≡ true
    → find (contains pc) functions ≡ Some f
last_contains functions pc i f apart h at t =
    let within : i < length functions = omega (h.0, starts_length functions, arith) in
    first_passes (contains pc) functions i f within (λ k e before.
    let ends = ends_before functions apart k i e before within in
    let start = start_is functions i e within in
    ends_by pc (get_or functions k e) (omega (ends, start, h.1, arith))) (ap (contains pc) at ∙ t) ∙ ap Some at

last_contains_not : (functions : List Func) (pc i : ℕ) (f : Func) → Apart functions → IsLastStart (starts_of functions) pc (Some i) → ((d : Func) → get_or functions i d ≡ f) → contains pc f ≡ false
    → find (contains pc) functions ≡ None
last_contains_not functions pc i f apart h numbered t = none_passes (contains pc) functions one_fails
  where
    at_or_behind : (k : ℕ) (d : Func) → k < length functions → i ≤ k → (i < k) ⊎ (k ≤ i) → contains pc (get_or functions k d) ≡ false
    at_or_behind k d lt le (inl after) =
        let start = start_is functions k d lt in
        let behind = h.2 k after (omega (lt, starts_length functions, arith)) in
        starts_behind pc (get_or functions k d) (omega (start, behind, arith))
    at_or_behind k d lt le (inr at) = let same : i ≡ k = omega (le, at, arith) in subst (λ j. contains pc (get_or functions j d) ≡ false) same (ap (contains pc) (numbered d) ∙ t)

    by_order : (k : ℕ) (d : Func) → k < length functions → (k < i) ⊎ (i ≤ k) → contains pc (get_or functions k d) ≡ false
    by_order k d lt (inl before) =
        let within : i < length functions = omega (h.0, starts_length functions, arith) in
        let ends = ends_before functions apart k i d before within in
        let start = start_is functions i d within in
        ends_by pc (get_or functions k d) (omega (ends, start, h.1, arith))
    by_order k d lt (inr le) = at_or_behind k d lt le (cases_lt i k)

    one_fails : (k : ℕ) (d : Func) → k < length functions → contains pc (get_or functions k d) ≡ false
    one_fails k d lt = by_order k d lt (cases_lt k i)

-- the last that starts by the address is one of the functions
pub last_within : (functions : List Func) (pc i : ℕ) → IsLastStart (starts_of functions) pc (Some i) → i < length functions
last_within functions pc i h = omega (h.0, starts_length functions, arith)

-- the last function that starts by the address is the first that contains it, or none does
pub last_decides : (functions : List Func) (pc i : ℕ) (function_of : ℕ → Func) (b : Bool) → Apart functions → IsLastStart (starts_of functions) pc (Some i)
    → ((d : Func) → get_or functions i d ≡ function_of i) → contains pc (function_of i) ≡ b → option_map function_of (then_some b i) ≡ find (contains pc) functions
last_decides functions pc i function_of true apart h numbered t = sym (last_contains functions pc i (function_of i) apart h (numbered (function_of i)) t)
last_decides functions pc i function_of false apart h numbered t = sym (last_contains_not functions pc i (function_of i) apart h numbered t)

pub within_if : (b : Bool) (i n : ℕ) (o : Option ℕ) → o ≡ then_some b i → i < n → IfSome o (λ (j : ℕ). j < n)
within_if true i n o e lt = subst (λ (r : Option ℕ). IfSome r (λ (j : ℕ). j < n)) (sym e) lt
within_if false i n o e lt = subst (λ (r : Option ℕ). IfSome r (λ (j : ℕ). j < n)) (sym e) tt

-- as many starts as functions
pub within_digits : (functions : List Func) (steps : ℕ) → 2 ^ steps ≤ 2 * length (starts_of functions) + 1 → IsWithinDigits steps (length functions)
within_digits functions steps few = subst (λ (n : ℕ). IsWithinDigits steps n) (length-map functions (λ (f : Func). f.start)) few
