-- The groups that are listed, one section after the other.
use Rattle.std.specs.Prelude.{filter, filter_map}
use Rattle.std.specs.List.{cons_option}
use Rattle.std.proofs.Common.{◌≡◌, ℕ, suc, ◌+◌, Bool, true, false, cond, List, [], ◌∷◌, ◌++◌, Option, Some, None, refl, sym, ap, ◌∙◌, add-one}
use Rattle.std.proofs.lemmas.List.{append-nil}
use Rattle.std.proofs.lemmas.List.Elements.{filter-append, filter_map-append}
use Rattle.elf_read.specs.Checking.{numbers_below}
use Rattle.elf_groups.specs.Groups.{group_signature}
use Rattle.elf_groups.specs.Groups.{dropped_below, was_seen, seen_below, signatures_below, with_signature}

joined : {X : Type 0} (xs ys zs : List X) → xs ++ (ys ++ zs) ≡ (xs ++ ys) ++ zs
joined [] ys zs = refl
joined {X = X} (x ∷ xs) ys zs = ap (λ (l : List X). x ∷ l) (joined xs ys zs)

-- ---- the signatures that were seen
none_below : (file : List ℕ) → signatures_below file 0 ≡ []
unfolding signatures_below numbers_below
none_below file = refl

pub none_seen : (seen : List (List ℕ)) (file : List ℕ) → seen_below seen file 0 ≡ seen
none_seen seen file = ap (λ (xs : List (List ℕ)). seen ++ xs) (none_below file) ∙ append-nil seen

pub seen_suc : (seen : List (List ℕ)) (file : List ℕ) (n : ℕ) → seen_below seen file (suc n) ≡ with_signature (seen_below seen file n) (group_signature file n)
unfolding signatures_below numbers_below
seen_suc seen file n = ap (λ (xs : List (List ℕ)). seen ++ xs) (filter_map-append (group_signature file) (numbers_below n) (n ∷ [])) ∙ last (filter_map (group_signature file) (numbers_below n)) (group_signature file n)
  where
    last : (before : List (List ℕ)) (o : Option (List ℕ)) → seen ++ (before ++ cons_option o []) ≡ with_signature (seen ++ before) o
    last before None = ap (λ (xs : List (List ℕ)). seen ++ xs) (append-nil before)
    last before (Some s) = joined seen before (s ∷ [])

pub one_seen : (seen : List (List ℕ)) (file : List ℕ) (n : ℕ) → with_signature (seen_below seen file n) (group_signature file n) ≡ seen_below seen file (n + 1)
one_seen seen file n = rw (add-one n) (sym (seen_suc seen file n))

-- ---- the numbers
pub none_listed : (seen : List (List ℕ)) (file : List ℕ) → dropped_below seen file 0 ≡ []
unfolding numbers_below
none_listed seen file = refl

pub listed_suc : (seen : List (List ℕ)) (file : List ℕ) (n : ℕ)
    → dropped_below seen file (suc n) ≡ cond (was_seen (seen_below seen file n) (group_signature file n)) (dropped_below seen file n ++ n ∷ []) (dropped_below seen file n)
unfolding numbers_below
listed_suc seen file n = filter-append listed (numbers_below n) (n ∷ []) ∙ last (listed n) (filter listed (numbers_below n))
  where
    listed : ℕ → Bool
    listed k = was_seen (seen_below seen file k) (group_signature file k)

    last : (b : Bool) (before : List ℕ) → before ++ cond b (n ∷ []) [] ≡ cond b (before ++ n ∷ []) before
    last true before = refl
    last false before = append-nil before

pub one_listed : (seen : List (List ℕ)) (file : List ℕ) (n : ℕ) (listed : List ℕ) → listed ≡ dropped_below seen file n → was_seen (seen_below seen file n) (group_signature file n) ≡ true → listed ++ n ∷ [] ≡ dropped_below seen file (n + 1)
one_listed seen file n listed e t = rw (add-one n)
    (ap (λ (xs : List ℕ). xs ++ n ∷ []) e
    ∙ sym (ap (λ (b : Bool). cond b (dropped_below seen file n ++ n ∷ []) (dropped_below seen file n)) t)
    ∙ sym (listed_suc seen file n))

pub one_stays : (seen : List (List ℕ)) (file : List ℕ) (n : ℕ) (listed : List ℕ) → listed ≡ dropped_below seen file n → was_seen (seen_below seen file n) (group_signature file n) ≡ false → listed ≡ dropped_below seen file (n + 1)
one_stays seen file n listed e t = rw (add-one n)
    (e
    ∙ sym (ap (λ (b : Bool). cond b (dropped_below seen file n ++ n ∷ []) (dropped_below seen file n)) t)
    ∙ sym (listed_suc seen file n))
