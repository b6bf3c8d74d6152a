-- What a union of tables has at an address is what the one table has that has a row there.
use Rattle.std.specs.Prelude.{nat_le, nat_lt, ◌⊎◌}
use Rattle.std.specs.List.{filter, find, Contains, AllPairs}
use Rattle.std.specs.List.Sorted.{IsPermutation}
use Rattle.std.specs.Option.{option_map}
use Rattle.std.proofs.Common.{◌≡◌, ℕ, zero, suc, ◌+◌, ◌<◌, ◌≤◌, Bool, true, false, cond, ◌&&◌, List, [], ◌∷◌, ◌++◌, All, length, Option, Some, None, refl, sym, ap, subst, ◌∙◌, arith, inl, inr}
use Rattle.std.proofs.lemmas.Bool.{leb-true, ltb-true, lt-ltb}
use Rattle.std.proofs.lemmas.List.Elements.{All-head, All-tail}
use Rattle.std.proofs.lemmas.List.Sorted.{Contains-permutation, IsPermutation-sym}
use Rattle.sf_model.specs.declared.machine.Arch.{Arch}
use Rattle.sf_model.specs.declared.rows.Row.{Row}
use Rattle.sf_model.specs.declared.function.Func.{Func}
use Rattle.sf_model.specs.Lookup.{FoundRow, contains, found_at, row_at, row_in, row_in_first}
use Rattle.sf_model.specs.Table.{Table}
use Rattle.sf_model.specs.Union.{all_functions, is_of_use, IsApart, IsUnion}

-- ---- pairs
pub pairs_head : {X : Type 0} (R : X → X → Type 0) (x : X) (xs : List X) → AllPairs R (x ∷ xs) → All (R x) xs
pairs_head R x xs h = λ k d lt. h 0 (suc k) d (omega arith) (omega (lt, arith))

pub pairs_tail : {X : Type 0} (R : X → X → Type 0) (x : X) (xs : List X) → AllPairs R (x ∷ xs) → AllPairs R xs
pairs_tail R x xs h = λ i j d lt within. h (suc i) (suc j) d (omega (lt, arith)) (omega (within, arith))

-- ---- elements
abbrev pub Member : {X : Type 0} → List X → X → Type 0
Member [] x = ⊥
Member (y ∷ ys) x = (y ≡ x) ⊎ Member ys x

pub member : {X : Type 0} (xs : List X) (x : X) → Contains xs x → Member xs x
member [] x c = absurd (omega (arith, c.1))
member (y ∷ ys) x (zero, lt, is) = inl is
member (y ∷ ys) x (suc k, lt, is) = inr (member ys x (k, omega (arith, lt), is))

pub contained : {X : Type 0} (xs : List X) (x : X) → Member xs x → Contains xs x
contained [] x m = absurd m
contained (y ∷ ys) x (inl is) = (zero, omega arith, is)
contained (y ∷ ys) x (inr m) = let later = contained ys x m in (suc later.0, omega (arith, later.1), later.2)

pub moved : {X : Type 0} (xs ys : List X) (x : X) → IsPermutation xs ys → Member xs x → Member ys x
moved xs ys x h m = member ys x (Contains-permutation xs ys x h (contained xs x m))

pub in_filter : {X : Type 0} (p : X → Bool) (xs : List X) (x : X) → p x ≡ true → Member xs x → Member (filter p xs) x
in_filter p [] x e m = m
in_filter p (y ∷ ys) x e (inl is) = subst (λ (b : Bool). Member (cond b (y ∷ filter p ys) (filter p ys)) x) (sym (ap p is ∙ e)) (inl is)
in_filter p (y ∷ ys) x e (inr m) = at_test (p y) (in_filter p ys x e m)
  where
    at_test : (b : Bool) → Member (filter p ys) x → Member (cond b (y ∷ filter p ys) (filter p ys)) x
    at_test true m = inr m
    at_test false m = m

pub from_filter : {X : Type 0} (p : X → Bool) (xs : List X) (x : X) → Member (filter p xs) x → Member xs x
from_filter p [] x m = m
from_filter p (y ∷ ys) x m = at_test (p y) m (from_filter p ys x)
  where
    at_test : (b : Bool) → Member (cond b (y ∷ filter p ys) (filter p ys)) x → (Member (filter p ys) x → Member ys x) → Member (y ∷ ys) x
    at_test true (inl is) later = inl is
    at_test true (inr m) later = inr (later m)
    at_test false m later = inr (later m)

on_left : {X : Type 0} (xs ys : List X) (x : X) → Member xs x → Member (xs ++ ys) x
on_left [] ys x m = absurd m
on_left (y ∷ xs) ys x (inl is) = inl is
on_left (y ∷ xs) ys x (inr m) = inr (on_left xs ys x m)

on_right : {X : Type 0} (xs ys : List X) (x : X) → Member ys x → Member (xs ++ ys) x
on_right [] ys x m = m
on_right (y ∷ xs) ys x m = inr (on_right xs ys x m)

either_side : {X : Type 0} (xs ys : List X) (x : X) → Member (xs ++ ys) x → Member xs x ⊎ Member ys x
either_side [] ys x m = inr m
either_side (y ∷ xs) ys x (inl is) = inl (inl is)
either_side (y ∷ xs) ys x (inr m) = elim (either_side xs ys x m) [ inl m ↦ inl (inr m) | inr m ↦ inr m ]

-- ---- the first that passes, where at most one does
abbrev pub OnePasses : {X : Type 0} → (X → Bool) → List X → Type 0
OnePasses {X} p xs = (x y : X) → Member xs x → Member xs y → p x ≡ true → p y ≡ true → x ≡ y

pub record IsFound {X : Type 0} (p : X → Bool) (xs : List X) (x : X) : Type 0 where
  pub passes : p x ≡ true
  pub within : Member xs x

pub found : {X : Type 0} (p : X → Bool) (xs : List X) (x : X) → find p xs ≡ Some x → IsFound p xs x
found p [] x e = cc
found p (y ∷ ys) x e = at_test (p y) refl e (found p ys x)
  where
    at_test : (b : Bool) → p y ≡ b → cond b (Some y) (find p ys) ≡ Some x → (find p ys ≡ Some x → IsFound p ys x) → IsFound p (y ∷ ys) x
    at_test true t e later = let is : y ≡ x = cc in record { passes = ap p (sym is) ∙ t; within = inl is }
    at_test false t e later = let h = later e in record { passes = h.passes; within = inr h.within }

pub some_found : {X : Type 0} (p : X → Bool) (xs : List X) (x : X) → p x ≡ true → Member xs x → find p xs ≡ None → ⊥
some_found p [] x t m e = m
some_found p (y ∷ ys) x t (inl is) e = let no = ap (λ (b : Bool). cond b (Some y) (find p ys)) (sym (ap p is ∙ t)) ∙ e in cc
some_found p (y ∷ ys) x t (inr m) e = at_test (p y) e (some_found p ys x t m)
  where
    at_test : (b : Bool) → cond b (Some y) (find p ys) ≡ None → (find p ys ≡ None → ⊥) → ⊥
    at_test true e later = cc
    at_test false e later = later e

pub found_alone : {X : Type 0} (p : X → Bool) (xs : List X) (x : X) → OnePasses p xs → Member xs x → p x ≡ true → find p xs ≡ Some x
found_alone p xs x one m t = at_result (find p xs) refl
  where
    at_result : (r : Option _) → find p xs ≡ r → find p xs ≡ Some x
    at_result None e = absurd (some_found p xs x t m e)
    at_result (Some y) e = let h = found p xs y e in e ∙ ap Some (one y x h.within m h.passes t)

-- ---- one function has an address
both : (a b : Bool) → (a && b) ≡ true → (a ≡ true) × (b ≡ true)
both true b e = (refl, e)
both false b e = cc

pub record IsWithin (pc : ℕ) (f : Func) : Type 0 where
  pub from : f.start ≤ pc
  pub to : pc < f.start + f.size

pub within : (pc : ℕ) (f : Func) → contains pc f ≡ true → IsWithin pc f
within pc f e =
    let two = both (nat_le f.start pc) (nat_lt pc (f.start + f.size)) e in
    record { from = leb-true f.start pc two.0; to = ltb-true pc (f.start + f.size) two.1 }

not_both : (pc : ℕ) (f g : Func) → IsApart f g → IsWithin pc f → IsWithin pc g → ⊥
not_both pc f g (inl none) a b = absurd (omega (none, a.from, a.to, arith))
not_both pc f g (inr (inl none)) a b = absurd (omega (none, b.from, b.to, arith))
not_both pc f g (inr (inr (inl ends))) a b = absurd (omega (ends, a.to, b.from, arith))
not_both pc f g (inr (inr (inr ends))) a b = absurd (omega (ends, b.to, a.from, arith))

apart_from : (f : Func) (fs : List Func) (g : Func) → All (IsApart f) fs → Member fs g → IsApart f g
apart_from f [] g all m = absurd m
apart_from f (h ∷ fs) g all (inl is) = subst (IsApart f) is (All-head (IsApart f) h fs all)
apart_from f (h ∷ fs) g all (inr m) = apart_from f fs g (All-tail (IsApart f) h fs all) m

pub one_contains : (pc : ℕ) (fs : List Func) → AllPairs IsApart fs → OnePasses (contains pc) fs
one_contains pc [] apart = λ x y m n s t. absurd m
one_contains pc (f ∷ fs) apart = λ x y m n s t. at_members x y m n s t (one_contains pc fs (pairs_tail IsApart f fs apart) x y)
  where
    never : (g h : Func) → f ≡ g → Member fs h → contains pc g ≡ true → contains pc h ≡ true → ⊥
    never g h is m s t =
        not_both pc f h (apart_from f fs h (pairs_head IsApart f fs apart) m) (within pc f (ap (contains pc) is ∙ s)) (within pc h t)

    at_members : (x y : Func) → Member (f ∷ fs) x → Member (f ∷ fs) y → contains pc x ≡ true → contains pc y ≡ true
        → (Member fs x → Member fs y → contains pc x ≡ true → contains pc y ≡ true → x ≡ y) → x ≡ y
    at_members x y (inl a) (inl b) s t later = sym a ∙ b
    at_members x y (inl a) (inr n) s t later = absurd (never x y a n s t)
    at_members x y (inr m) (inl b) s t later = absurd (never y x b m t s)
    at_members x y (inr m) (inr n) s t later = later m n s t

-- ---- the functions of tables
in_all : (tables : List Table) (table : Table) (f : Func) → Member tables table → Member table.functions f → Member (all_functions tables) f
in_all [] table f m n = absurd m
in_all (t ∷ ts) table f (inl is) n = on_left t.functions (all_functions ts) f (subst (λ (t : Table). Member t.functions f) (sym is) n)
in_all (t ∷ ts) table f (inr m) n = on_right t.functions (all_functions ts) f (in_all ts table f m n)

-- what none of the tables has
none_there : (pc : ℕ) (tables : List Table) (f : Func) → All (λ (table : Table). found_at table.functions pc ≡ None) tables → Member (all_functions tables) f
    → ((table : Table) → Member tables table → Member table.functions f → found_at table.functions pc ≡ row_in pc f) → row_in pc f ≡ None
none_there pc [] f none m h = absurd m
none_there pc (t ∷ ts) f none m h = elim (either_side t.functions (all_functions ts) f m) [
  | inl n ↦ sym (h t (inl refl) n) ∙ All-head (λ (table : Table). found_at table.functions pc ≡ None) t ts none
  | inr n ↦ none_there pc ts f (All-tail (λ (table : Table). found_at table.functions pc ≡ None) t ts none) n (λ table m n. h table (inr m) n)
]

-- ---- the row of a function
has_rows : (offset : ℕ) (rows : List Row) (f : Func) (r : FoundRow) → option_map (λ (row : Row). record { func = f; row = row }) (row_at offset rows) ≡ Some r → 0 < length rows
unfolding row_at
has_rows offset [] f r e = cc
has_rows offset (row ∷ rows) f r e = omega arith

useful_there : (pc : ℕ) (f : Func) (r : FoundRow) → contains pc f ≡ true → row_in pc f ≡ Some r → is_of_use f ≡ true
useful_there pc f r t e =
    let w = within pc f t in
    let size = lt-ltb 0 f.size (omega (w.from, w.to, arith)) in
    let rows = lt-ltb 0 (length f.rows) (has_rows _ f.rows f r e) in
    rw (size, rows) refl

pub found_by : (functions : List Func) (pc : ℕ) (o : Option Func) → find (contains pc) functions ≡ o → found_at functions pc ≡ row_in_first pc o
unfolding found_at
found_by functions pc o e = ap (row_in_first pc) e

-- ---- the law
module _ (arch : Arch) (tables : List Table) (functions : List Func) (union : IsUnion arch tables functions) (pc : ℕ) where
  one_of_all : OnePasses (contains pc) (all_functions tables)
  one_of_all = one_contains pc (all_functions tables) union.apart

  from_union : (f : Func) → Member functions f → Member (all_functions tables) f
  from_union f m = from_filter is_of_use (all_functions tables) f (moved functions (filter is_of_use (all_functions tables)) f (IsPermutation-sym (filter is_of_use (all_functions tables)) functions union.taken) m)

  of_table : (table : Table) → Member tables table → (f : Func) → Member table.functions f → contains pc f ≡ true → found_at table.functions pc ≡ row_in pc f
  of_table table m f n t =
      found_by table.functions pc (Some f) (found_alone (contains pc) table.functions f (λ x y a b s t. one_of_all x y (in_all tables table x m a) (in_all tables table y m b) s t) n t)

  of_union : (f : Func) → Member functions f → contains pc f ≡ true → found_at functions pc ≡ row_in pc f
  of_union f n t = found_by functions pc (Some f) (found_alone (contains pc) functions f (λ x y a b s t. one_of_all x y (from_union x a) (from_union y b) s t) n t)

  pub answered : (table : Table) (r : FoundRow) → Contains tables table → found_at table.functions pc ≡ Some r → found_at functions pc ≡ Some r
  answered table r c e = at_found (find (contains pc) table.functions) refl
    where
      at_found : (o : Option Func) → find (contains pc) table.functions ≡ o → found_at functions pc ≡ Some r
      at_found None g = let no = sym (found_by table.functions pc None g) ∙ e in cc
      at_found (Some f) g =
          let h = found (contains pc) table.functions f g in
          let row : row_in pc f ≡ Some r = sym (found_by table.functions pc (Some f) g) ∙ e in
          let all = in_all tables table f (member tables table c) h.within in
          let used = in_filter is_of_use (all_functions tables) f (useful_there pc f r h.passes row) all in
          of_union f (moved (filter is_of_use (all_functions tables)) functions f union.taken used) h.passes ∙ row

  pub unanswered : All (λ (table : Table). found_at table.functions pc ≡ None) tables → found_at functions pc ≡ None
  unanswered none = at_found (find (contains pc) functions) refl
    where
      at_found : (o : Option Func) → find (contains pc) functions ≡ o → found_at functions pc ≡ None
      at_found None g = found_by functions pc None g
      at_found (Some f) g =
          let h = found (contains pc) functions f g in
          found_by functions pc (Some f) g ∙ none_there pc tables f none (from_union f h.within) (λ table m n. of_table table m f n h.passes)
