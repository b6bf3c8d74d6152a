-- Marking sections, one member and one group after the other.
use Rattle.std.proofs.Common.{◌≡◌, ℕ, suc, ◌+◌, ◌<◌, ◌≤◌, ◌==◌, Bool, true, false, ◌||◌, List, [], ◌∷◌, ◌++◌, length, get_or, take, refl, sym, ap, ◌∙◌, arith, subst, inl, inr, eq-eqb, ne_eqb}
use Rattle.std.proofs.Math.ListN.{set}
use Rattle.std.proofs.lemmas.Bool.{cases_eq}
use Rattle.std.proofs.lemmas.List.{get_or-set_same, get_or-set_other}
use Rattle.std.proofs.lemmas.Grind.{take_at_read}
use Rattle.std.specs.List.{list_any}
use Rattle.elf_read.specs.Checking.{numbers_below}
use Rattle.elf_read.specs.Sections.{group_member}
use Rattle.elf_place.specs.Dropped.{is_member, is_named, is_dropped}

pub or_false : (a : Bool) → a ≡ (a || false)
or_false true = refl
or_false false = refl

pub or_true : (a : Bool) → true ≡ (a || true)
or_true true = refl
or_true false = refl

or_true_twice : (a b : Bool) → true ≡ (a || (b || true))
or_true_twice true b = refl
or_true_twice false b = or_true b

pub or_assoc : (a b c : Bool) → ((a || b) || c) ≡ (a || (b || c))
or_assoc true b c = refl
or_assoc false b c = refl

any_append : {X : Type 0} (p : X → Bool) (xs ys : List X) → list_any p (xs ++ ys) ≡ (list_any p xs || list_any p ys)
any_append p [] ys = refl
any_append p (x ∷ xs) ys = ap (λ (b : Bool). p x || b) (any_append p xs ys) ∙ sym (or_assoc (p x) (list_any p xs) (list_any p ys))

pub is_member-none : (file : List ℕ) (group i : ℕ) → is_member file group 0 i ≡ false
unfolding numbers_below
is_member-none file group i = refl

after_suc : (file : List ℕ) (group k i : ℕ) → is_member file group (suc k) i ≡ (is_member file group k i || (group_member file group k == i))
unfolding numbers_below
after_suc file group k i =
    any_append (λ (m : ℕ). group_member file group m == i) (numbers_below k) (k ∷ [])
    ∙ ap (λ (z : Bool). is_member file group k i || z) (sym (or_false (group_member file group k == i)))

pub is_member-more : (file : List ℕ) (group k i : ℕ) → is_member file group (k + 1) i ≡ (is_member file group k i || (group_member file group k == i))
is_member-more file group k i =
    let next : k + 1 ≡ suc k = omega arith in
    ap (λ (n : ℕ). is_member file group n i) next ∙ after_suc file group k i

-- a member marked, and a number past the sections passed over
pub marked : (xs : List Bool) (m i : ℕ) (a b : Bool) → i < length xs → get_or xs i false ≡ (a || b) → get_or (set xs m true) i false ≡ (a || (b || (m == i)))
marked xs m i a b within h =
    elim (cases_eq m i) [
      | inl same ↦
          let test : (m == i) ≡ true = eq-eqb m i same in
          rw test (subst (λ (k : ℕ). get_or (set xs m true) k false ≡ (a || (b || true))) same (get_or-set_same xs m true false (subst (λ (k : ℕ). k < length xs) (sym same) within) ∙ or_true_twice a b))
      | inr differ ↦
          let test : (m == i) ≡ false = ne_eqb m i differ in
          rw test (get_or-set_other xs m i true false (λ e. differ (sym e)) ∙ h ∙ ap (λ (z : Bool). a || z) (or_false b))
    ]

pub unmarked : (xs : List Bool) (m i : ℕ) (a b : Bool) → i < length xs → length xs ≤ m → get_or xs i false ≡ (a || b) → get_or xs i false ≡ (a || (b || (m == i)))
unmarked xs m i a b within past h =
    let differ : m ≡ i → ⊥ = λ e. omega (arith, e) in
    let test : (m == i) ≡ false = ne_eqb m i differ in
    rw test (h ∙ ap (λ (z : Bool). a || z) (or_false b))

is_dropped-nil : (file : List ℕ) (i : ℕ) → is_dropped file [] i ≡ false
unfolding is_dropped
is_dropped-nil file i = refl

is_dropped-cons : (file : List ℕ) (g : ℕ) (gone : List ℕ) (i : ℕ) → is_dropped file (g ∷ gone) i ≡ (is_named file g i || is_dropped file gone i)
unfolding is_dropped is_named
is_dropped-cons file g gone i = refl

is_dropped-end : (file : List ℕ) (gone : List ℕ) (g i : ℕ) → is_dropped file (gone ++ g ∷ []) i ≡ (is_dropped file gone i || is_named file g i)
is_dropped-end file [] g i =
    is_dropped-cons file g [] i ∙ ap (λ (z : Bool). is_named file g i || z) (is_dropped-nil file i) ∙ sym (or_false (is_named file g i))
    ∙ ap (λ (z : Bool). z || is_named file g i) (sym (is_dropped-nil file i))
is_dropped-end file (x ∷ gone) g i =
    is_dropped-cons file x (gone ++ g ∷ []) i
    ∙ ap (λ (z : Bool). is_named file x i || z) (is_dropped-end file gone g i)
    ∙ sym (or_assoc (is_named file x i) (is_dropped file gone i) (is_named file g i))
    ∙ ap (λ (z : Bool). z || is_named file g i) (sym (is_dropped-cons file x gone i))

pub is_dropped-none : (file : List ℕ) (gone : List ℕ) (i : ℕ) → is_dropped file (take 0 gone) i ≡ false
is_dropped-none file gone i = is_dropped-nil file i

pub is_dropped-more : (file gone : List ℕ) (k i : ℕ) → k < length gone → is_dropped file (take (k + 1) gone) i ≡ (is_dropped file (take k gone) i || is_named file (get_or gone k 0) i)
is_dropped-more file gone k i within =
    ap (λ (xs : List ℕ). is_dropped file xs i) (take_at_read gone k 0 within).1 ∙ is_dropped-end file (take k gone) (get_or gone k 0) i
