-- Sections with relocations: their list, and those of one target in it.
use Rattle.std.specs.Prelude.{nat_lt, not, ◌&&◌, ◌==◌}
use Rattle.std.specs.List.{filter}
use Rattle.std.specs.List.Sorted.{IsPartitionPoint, IsStableByKey, ties}
use Rattle.std.specs.Ordering.{nat_cmp, is_lt}
use Rattle.std.specs.declared.cmp.Ordering.TheVariants.{Less, Equal, Greater}
use Rattle.std.proofs.Common.{◌≡◌, ℕ, zero, suc, ◌+◌, ◌-◌, ◌<◌, ◌≤◌, Bool, true, false, cond, eqb, ltb, leb, List, [], ◌∷◌, ◌++◌, length, take, drop, get_or, refl, sym, ap, ◌∙◌, arith, inl, inr, if◌then◌else◌, eq-eqb, ne_eqb, ltb-true, ltb-false}
use Rattle.std.proofs.lemmas.Bool.{cases_lt, lt-ltb, le-ltb, leb-true, leb-false}
use Rattle.std.proofs.lemmas.List.{append-nil, map-append, take-append-drop, get_or-take, get_or-drop, length-drop, length-take-le}
use Rattle.std.proofs.lemmas.List.Elements.{filter-append, filter_agree}
use Rattle.elf_read.specs.Sections.{section_fields}
use Rattle.elf_place.specs.declared.relocations.RelocationSection.{RelocationSection}
use Rattle.elf_place.specs.Relocations.{has_relocations, is_relocation_section, relocation_sections_below, target_of, numbers_of, with_target, as_listed, listed_below}
use Rattle.elf_place.proofs.Numbers.{with_one, filter_none, filter_suc}

-- ---- the list
pub listed_below-none : (file : List ℕ) → listed_below file 0 ≡ []
unfolding listed_below
listed_below-none file = refl

listed_below-suc : (file : List ℕ) (n : ℕ) → listed_below file (suc n) ≡ (if has_relocations file n then listed_below file n ++ as_listed file n ∷ [] else listed_below file n)
unfolding listed_below
listed_below-suc file n = refl

pub listed_below-more : (file : List ℕ) (n : ℕ) → listed_below file (n + 1) ≡ (if has_relocations file n then listed_below file n ++ as_listed file n ∷ [] else listed_below file n)
listed_below-more file n =
    let next : n + 1 ≡ suc n = omega arith in
    ap (listed_below file) next ∙ listed_below-suc file n

below-none : (file : List ℕ) (target : ℕ) → relocation_sections_below file target 0 ≡ []
below-none file target = filter_none (is_relocation_section file target)

below-suc : (file : List ℕ) (target n : ℕ) → relocation_sections_below file target (suc n) ≡ with_one (has_relocations file n && ((section_fields file n).sh_info == target)) n (relocation_sections_below file target n)
unfolding is_relocation_section has_relocations
below-suc file target n = filter_suc (is_relocation_section file target) n

-- one section more, by its tests
more_by : (file : List ℕ) (target n : ℕ) (has is : Bool) (before : List RelocationSection) (numbers : List ℕ) → ((section_fields file n).sh_info == target) ≡ is → numbers_of (with_target target before) ≡ numbers
    → numbers_of (with_target target (if has then before ++ as_listed file n ∷ [] else before)) ≡ with_one (has && is) n numbers
more_by file target n false is before numbers e h = h
more_by file target n true is before numbers e h =
    ap (λ (xs : List RelocationSection). numbers_of xs) (filter-append (λ (s : RelocationSection). s.target == target) before (as_listed file n ∷ []))
    ∙ map-append (λ (s : RelocationSection). s.number) (with_target target before) (with_target target (as_listed file n ∷ []))
    ∙ ap (λ (xs : List ℕ). xs ++ numbers_of (with_target target (as_listed file n ∷ []))) h
    ∙ ap (λ (b : Bool). numbers ++ numbers_of (cond b (as_listed file n ∷ []) [])) e
    ∙ last is
  where
    last : (b : Bool) → numbers ++ numbers_of (cond b (as_listed file n ∷ []) []) ≡ with_one b n numbers
    last true = refl
    last false = append-nil numbers

-- the list in order of the numbers has those of each target
pub listed_has_all : (file : List ℕ) (target n : ℕ) → numbers_of (with_target target (listed_below file n)) ≡ relocation_sections_below file target n
listed_has_all file target zero = ap (λ (xs : List RelocationSection). numbers_of (with_target target xs)) (listed_below-none file) ∙ sym (below-none file target)
listed_has_all file target (suc n) =
    ap (λ (xs : List RelocationSection). numbers_of (with_target target xs)) (listed_below-suc file n)
    ∙ more_by file target n (has_relocations file n) ((section_fields file n).sh_info == target) (listed_below file n) (relocation_sections_below file target n) refl (listed_has_all file target n)
    ∙ sym (below-suc file target n)

-- ---- a stable order by targets keeps those of each target as they are
by_test : (b equal : Bool) → is_lt (cond b Less (cond equal Equal Greater)) ≡ b
by_test true equal = refl
by_test false true = refl
by_test false false = refl

less_is : (a b : ℕ) → is_lt (nat_cmp a b) ≡ nat_lt a b
less_is a b = by_test (nat_lt a b) (eqb a b)

by_numbers : (a b : ℕ) → (not (is_lt (nat_cmp a b)) && not (is_lt (nat_cmp b a))) ≡ (b == a)
by_numbers a b = rw (less_is a b, less_is b a) (elim (cases_lt a b) [
  | inl below ↦ rw (lt-ltb a b below) (sym (ne_eqb b a (λ e. omega (arith, below, e))))
  | inr upto ↦ elim (cases_lt b a) [
    | inl above ↦ rw (le-ltb a b upto, lt-ltb b a above) (sym (ne_eqb b a (λ e. omega (arith, above, e))))
    | inr same ↦ rw (le-ltb a b upto, le-ltb b a same) (sym (eq-eqb b a (omega (arith, upto, same))))
  ]
])

any_of : ℕ → RelocationSection
any_of target = record { target = target; number = 0 }

pub stable_keeps : (target : ℕ) (all sorted : List RelocationSection) → IsStableByKey target_of nat_cmp all sorted → with_target target sorted ≡ with_target target all
unfolding any_of
stable_keeps target all sorted stable =
    let tied : RelocationSection → Bool = ties (λ (x y : RelocationSection). is_lt (nat_cmp (target_of x) (target_of y))) (any_of target) in
    let same : (s : RelocationSection) → tied s ≡ (s.target == target) = λ s. by_numbers target s.target in
    sym (filter_agree tied (λ (s : RelocationSection). s.target == target) same sorted)
    ∙ stable (any_of target)
    ∙ filter_agree tied (λ (s : RelocationSection). s.target == target) same all

-- ---- those of one target are a part of a list by rising target
none_pass : {X : Type 0} (p : X → Bool) (xs : List X) → ((k : ℕ) (d : X) → k < length xs → p (get_or xs k d) ≡ false) → filter p xs ≡ []
none_pass p [] h = refl
none_pass {X = X} p (x ∷ xs) h =
    ap (λ (b : Bool). cond b (x ∷ filter p xs) (filter p xs)) (h 0 x (omega arith))
    ∙ none_pass p xs (λ k d within. h (suc k) d (omega (arith, within)))

all_pass : {X : Type 0} (p : X → Bool) (xs : List X) → ((k : ℕ) (d : X) → k < length xs → p (get_or xs k d) ≡ true) → filter p xs ≡ xs
all_pass p [] h = refl
all_pass {X = X} p (x ∷ xs) h =
    ap (λ (b : Bool). cond b (x ∷ filter p xs) (filter p xs)) (h 0 x (omega arith))
    ∙ ap (λ (ys : List X). x ∷ ys) (all_pass p xs (λ k d within. h (suc k) d (omega (arith, within))))

abbrev Passes : (RelocationSection → Bool) → List RelocationSection → ℕ → Type 0
Passes p xs i = IsPartitionPoint (λ s. p s ≡ true) (λ s. p s ≡ false) xs i

pub run_is : (target i j : ℕ) (xs : List RelocationSection) → i ≤ length xs → j ≤ length (drop i xs)
    → Passes (λ s. ltb s.target target) xs i → Passes (λ s. leb s.target target) (drop i xs) j
    → take j (drop i xs) ≡ with_target target xs
run_is target i j xs within inside below upto =
    let p : RelocationSection → Bool = λ s. s.target == target in
    let rest = drop i xs in
    let len : length rest ≡ length xs - i = length-drop i xs in
    let front : filter p (take i xs) ≡ [] = none_pass p (take i xs) (λ k d h.
    let short : length (take i xs) ≡ i = length-take-le i xs within in
    let inside : k < i = omega (arith, h, short) in
    let lt : (get_or xs k d).target < target = ltb-true _ _ (below.0 k d (omega arith) inside) in
    let is : get_or (take i xs) k d ≡ get_or xs k d = get_or-take i xs k d inside in
    ap p is ∙ ne_eqb _ _ (λ e. omega (arith, lt, e))) in
    let middle : filter p (take j rest) ≡ take j rest = all_pass p (take j rest) (λ k d h.
    let short : length (take j rest) ≡ j = length-take-le j rest inside in
    let here : k < j = omega (arith, h, short) in
    let le : (get_or rest k d).target ≤ target = leb-true _ _ (upto.0 k d (omega arith) here) in
    let at : get_or rest k d ≡ get_or xs (i + k) d = get_or-drop i xs k d in
    let far : i + k < length xs = omega (arith, here, inside, len) in
    let ge : target ≤ (get_or xs (i + k) d).target = ltb-false _ _ (below.1 (i + k) d (omega arith) far) in
    let same : (get_or rest k d).target ≡ (get_or xs (i + k) d).target = ap (λ (s : RelocationSection). s.target) at in
    let is : get_or (take j rest) k d ≡ get_or rest k d = get_or-take j rest k d here in
    ap p is ∙ eq-eqb _ _ (omega (arith, le, ge, same))) in
    let back : filter p (drop j rest) ≡ [] = none_pass p (drop j rest) (λ k d h.
    let short : length (drop j rest) ≡ length rest - j = length-drop j rest in
    let far : j + k < length rest = omega (arith, h, short) in
    let gt : target < (get_or rest (j + k) d).target = leb-false _ _ (upto.1 (j + k) d (omega arith) far) in
    let is : get_or (drop j rest) k d ≡ get_or rest (j + k) d = get_or-drop j rest k d in
    ap p is ∙ ne_eqb _ _ (λ e. omega (arith, gt, e))) in
    sym (
    ap (filter p) (sym (take-append-drop i xs)) ∙ filter-append p (take i xs) rest
    ∙ ap (λ (ys : List RelocationSection). ys ++ filter p rest) front
    ∙ ap (filter p) (sym (take-append-drop j rest)) ∙ filter-append p (take j rest) (drop j rest)
    ∙ ap (λ (ys : List RelocationSection). ys ++ filter p (drop j rest)) middle
    ∙ ap (λ (ys : List RelocationSection). take j rest ++ ys) back
    ∙ append-nil (take j rest)
    )
