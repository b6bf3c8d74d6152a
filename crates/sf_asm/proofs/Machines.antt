-- The machines of all items are one, or the least that differs is found.
use Rattle.std.specs.Prelude.{nat_lt, not, position}
use Rattle.std.specs.List.{AllByRecursion, position_or_len}
use Rattle.std.specs.Option.{option_map}
use Rattle.std.proofs.Common.{◌≡◌, ℕ, suc, ◌+◌, ◌<◌, Bool, true, false, cond, All, List, [], ◌∷◌, ◌++◌, length, get_or, Option, Some, None, refl, sym, ap, subst, ◌∙◌, arith}
use Rattle.std.proofs.lemmas.Bool.{lt-ltb, le-ltb, ltb-true, ltb-false}
use Rattle.std.proofs.lemmas.List.Elements.{recursion_from_All, All-from_recursion}
use Rattle.sf_model.specs.declared.machine.Arch.{Arch}
use Rattle.sf_model.specs.declared.machine.Arch.TheVariants.{Amd64, Aarch64}
use Rattle.sf_asm.specs.declared.fault.GatherFault.TheVariants.{MixedArch}
use Rattle.sf_asm.specs.Inputs.{differing, is_same, mixed_among, with_before}

-- ---- two machines
pub same_is : (one other : Arch) → is_same one other ≡ true → other ≡ one
same_is Amd64 Amd64 e = refl
same_is Amd64 Aarch64 e = cc
same_is Aarch64 Amd64 e = cc
same_is Aarch64 Aarch64 e = refl

pub same_self : (arch : Arch) → is_same arch arch ≡ true
same_self Amd64 = refl
same_self Aarch64 = refl

not_differing : (b : Bool) → not b ≡ false → b ≡ true
not_differing true e = refl
not_differing false e = cc

-- ---- places
one_more : (place count : ℕ) → cond (nat_lt (1 + place) (suc count)) (Some (1 + place)) None ≡ option_map suc (cond (nat_lt place count) (Some place) None)
one_more place count = at_test (nat_lt place count) refl
  where
    at_test : (b : Bool) → nat_lt place count ≡ b → cond (nat_lt (1 + place) (suc count)) (Some (1 + place)) None ≡ option_map suc (cond (nat_lt place count) (Some place) None)
    at_test true t = let lt = ltb-true place count t in rw (t, lt-ltb (1 + place) (suc count) (omega (arith, lt))) (ap Some (omega arith))
    at_test false t = let le = ltb-false place count t in rw (t, le-ltb (1 + place) (suc count) (omega (arith, le))) refl

-- the first is none
pub passed_over : {X : Type 0} (p : X → Bool) (x : X) (xs : List X) → p x ≡ false → position p (x ∷ xs) ≡ option_map suc (position p xs)
passed_over p x xs e = rw e (one_more (position_or_len p xs) (length xs))

pub position_below : {X : Type 0} (p : X → Bool) (xs : List X) (i : ℕ) → position p xs ≡ Some i → i < length xs
position_below p xs i e = at_test (nat_lt (position_or_len p xs) (length xs)) refl e
  where
    at_test : (b : Bool) → nat_lt (position_or_len p xs) (length xs) ≡ b → cond b (Some (position_or_len p xs)) None ≡ Some i → i < length xs
    at_test true t e = let is : position_or_len p xs ≡ i = cc in let lt = ltb-true (position_or_len p xs) (length xs) t in omega (arith, lt, is)
    at_test false t e = cc

pub no_place : {X : Type 0} (p : X → Bool) (xs : List X) → AllByRecursion (λ x. p x ≡ false) xs → position p xs ≡ None
no_place p [] h = refl
no_place p (x ∷ xs) h = passed_over p x xs h.0 ∙ ap (option_map suc) (no_place p xs h.1)

no_suc : (place : Option ℕ) → option_map suc place ≡ None → place ≡ None
no_suc None e = refl
no_suc (Some n) e = cc

pub none_pass : {X : Type 0} (p : X → Bool) (xs : List X) → position p xs ≡ None → AllByRecursion (λ x. p x ≡ false) xs
none_pass p [] e = tt
none_pass p (x ∷ xs) e = at_test (p x) refl e (none_pass p xs)
  where
    at_test : (b : Bool) → p x ≡ b → position p (x ∷ xs) ≡ None → (position p xs ≡ None → AllByRecursion (λ x. p x ≡ false) xs) → (p x ≡ false) × AllByRecursion (λ x. p x ≡ false) xs
    at_test false t e others = (t, others (no_suc (position p xs) (sym (passed_over p x xs t) ∙ e)))
    at_test true t e others = let found = rw (t, lt-ltb 0 (suc (length xs)) (omega arith)) at e in cc

-- ---- all machines
-- behind an item, and alone
pub differing_behind : (arch : Arch) (machines : List Arch) → differing (arch ∷ machines) ≡ option_map suc (position (λ machine. not (is_same arch machine)) machines)
differing_behind arch machines = passed_over (λ machine. not (is_same arch machine)) arch machines (ap not (same_self arch))

pub differing_alone : (arch d : Arch) (machines : List Arch) → 0 < length machines → arch ≡ get_or machines 0 d → differing machines ≡ position (λ machine. not (is_same arch machine)) machines
differing_alone arch d [] some e = absurd (omega (arith, some))
differing_alone arch d (first ∷ others) some e = ap (λ (a : Arch). position (λ machine. not (is_same a machine)) (first ∷ others)) (sym e)

are_same : (arch : Arch) (machines : List Arch) → AllByRecursion (λ machine. not (is_same arch machine) ≡ false) machines → AllByRecursion (λ machine. machine ≡ arch) machines
are_same arch [] h = tt
are_same arch (machine ∷ machines) h = (same_is arch machine (not_differing (is_same arch machine) h.0), are_same arch machines h.1)

pub none_differs : (arch : Arch) (machines : List Arch) → position (λ machine. not (is_same arch machine)) machines ≡ None → All (λ machine. machine ≡ arch) machines
none_differs arch machines e = All-from_recursion (λ machine. machine ≡ arch) machines (are_same arch machines (none_pass (λ machine. not (is_same arch machine)) machines e))

pub none_differs_behind : (arch : Arch) (machines : List Arch) → position (λ machine. not (is_same arch machine)) machines ≡ None → All (λ machine. machine ≡ arch) (arch ∷ machines)
none_differs_behind arch machines e = All-from_recursion (λ machine. machine ≡ arch) (arch ∷ machines) (refl, are_same arch machines (none_pass (λ machine. not (is_same arch machine)) machines e))

-- ---- one machine, where none differs
pub record IsOne (machines : List Arch) : Type 0 where
  pub arch : Arch
  pub all : All (λ machine. machine ≡ arch) machines

unmixed : (place : Option ℕ) → option_map (MixedArch 0) place ≡ None → place ≡ None
unmixed None e = refl
unmixed (Some place) e = cc

pub is_one : (machines : List Arch) → mixed_among machines ≡ None → IsOne machines
is_one [] e = record { arch = Amd64; all = All-from_recursion (λ machine. machine ≡ Amd64) [] tt }
is_one (first ∷ others) e = record { arch = first; all = none_differs first (first ∷ others) (unmixed (position (λ machine. not (is_same first machine)) (first ∷ others)) e) }

all_differ_not : (arch first : Arch) (machines : List Arch) → first ≡ arch → AllByRecursion (λ machine. machine ≡ arch) machines → AllByRecursion (λ machine. not (is_same first machine) ≡ false) machines
all_differ_not arch first [] e h = tt
all_differ_not arch first (machine ∷ machines) e h =
    (ap not (ap (is_same first) (h.0 ∙ sym e) ∙ same_self first), all_differ_not arch first machines e h.1)

not_mixed : (arch : Arch) (machines : List Arch) → AllByRecursion (λ machine. machine ≡ arch) machines → mixed_among machines ≡ None
not_mixed arch [] h = refl
not_mixed arch (first ∷ others) h =
    ap (option_map (MixedArch 0)) (no_place (λ machine. not (is_same first machine)) (first ∷ others) (all_differ_not arch first (first ∷ others) h.0 h))

pub one_is_unmixed : (arch : Arch) (machines : List Arch) → All (λ machine. machine ≡ arch) machines → mixed_among machines ≡ None
one_is_unmixed arch machines h = not_mixed arch machines (recursion_from_All (λ machine. machine ≡ arch) machines h)

-- of the inputs alone
pub inputs_have : (before : Option Arch) (arch : Arch) (machines : List Arch) → All (λ machine. machine ≡ arch) (with_before before machines) → All (λ machine. machine ≡ arch) machines
inputs_have None arch machines h = h
inputs_have (Some first) arch machines h = All-from_recursion (λ machine. machine ≡ arch) machines (recursion_from_All (λ machine. machine ≡ arch) (first ∷ machines) h).1

-- ---- the test of all machines, whose first is numbered
abbrev first_after : (first : ℕ × Arch) → List Arch → Option ℕ
first_after first machines = position (λ (machine : Arch). not (is_same first.1 machine)) machines

-- what is tried, behind an item of this machine
abbrev Refuses : (before : Option Arch) → (machines : List Arch) → (number : ℕ) → Type 0
Refuses before machines number = mixed_among (with_before before machines) ≡ Some (MixedArch 0 number)

pub refused_behind : (before : Option Arch) (arch : Arch) (first : ℕ × Arch) (machines : List Arch) (index : ℕ) → before ≡ Some arch → first ≡ (1, arch) → first_after first machines ≡ Some index → Refuses before machines (first.0 + index)
refused_behind before arch first machines index is at e =
    subst (λ (x : ℕ × Arch). first_after x machines ≡ Some index → Refuses before machines (x.0 + index)) (sym at)
    (λ found. subst (λ (b : Option Arch). Refuses b machines (1 + index)) (sym is)
    (ap (option_map (MixedArch 0)) (differing_behind arch machines ∙ ap (option_map suc) found) ∙ ap (λ (n : ℕ). Some (MixedArch 0 n)) (omega arith))) e

pub refused_alone : (before : Option Arch) (d : Arch) (first : ℕ × Arch) (machines : List Arch) (index : ℕ) → before ≡ None → first ≡ (0, get_or machines 0 d) → 0 < length machines → first_after first machines ≡ Some index → Refuses before machines (first.0 + index)
refused_alone before d first machines index is at some e =
    subst (λ (x : ℕ × Arch). first_after x machines ≡ Some index → Refuses before machines (x.0 + index)) (sym at)
    (λ found. subst (λ (b : Option Arch). Refuses b machines (0 + index)) (sym is)
    (ap (option_map (MixedArch 0)) (differing_alone (get_or machines 0 d) d machines some refl ∙ found) ∙ ap (λ (n : ℕ). Some (MixedArch 0 n)) (omega arith))) e

-- all have the first one
pub have_first_behind : (before : Option Arch) (arch : Arch) (first : ℕ × Arch) (machines : List Arch) → before ≡ Some arch → first ≡ (1, arch) → first_after first machines ≡ None → All (λ machine. machine ≡ first.1) (with_before before machines)
have_first_behind before arch first machines is at e =
    subst (λ (x : ℕ × Arch). first_after x machines ≡ None → All (λ machine. machine ≡ x.1) (with_before before machines)) (sym at)
    (λ none. subst (λ (b : Option Arch). All (λ machine. machine ≡ arch) (with_before b machines)) (sym is) (none_differs_behind arch machines none)) e

pub have_first_alone : (before : Option Arch) (first : ℕ × Arch) (machines : List Arch) → before ≡ None → first_after first machines ≡ None → All (λ machine. machine ≡ first.1) (with_before before machines)
have_first_alone before first machines is e =
    subst (λ (b : Option Arch). All (λ machine. machine ≡ first.1) (with_before b machines)) (sym is) (none_differs first.1 machines e)

-- one more input
have_more : (arch : Arch) (machines : List Arch) (machine : Arch) → AllByRecursion (λ m. m ≡ arch) (machines ++ machine ∷ []) → AllByRecursion (λ m. m ≡ arch) machines × (machine ≡ arch)
have_more arch [] machine h = (tt, h.0)
have_more arch (m ∷ machines) machine h = let rest = have_more arch machines machine h.1 in ((h.0, rest.0), rest.1)

pub earlier_have : (arch : Arch) (machines : List Arch) (machine : Arch) → All (λ m. m ≡ arch) (machines ++ machine ∷ []) → All (λ m. m ≡ arch) machines
earlier_have arch machines machine h = All-from_recursion (λ m. m ≡ arch) machines (have_more arch machines machine (recursion_from_All (λ m. m ≡ arch) (machines ++ machine ∷ []) h)).0

pub last_has : (arch : Arch) (machines : List Arch) (machine : Arch) → All (λ m. m ≡ arch) (machines ++ machine ∷ []) → machine ≡ arch
last_has arch machines machine h = (have_more arch machines machine (recursion_from_All (λ m. m ≡ arch) (machines ++ machine ∷ []) h)).1
