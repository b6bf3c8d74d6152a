-- The numbers below a count that pass a test, one number after the other.
use Rattle.std.specs.Prelude.{filter}
use Rattle.std.proofs.Common.{◌≡◌, ℕ, suc, Bool, true, false, cond, List, [], ◌∷◌, ◌++◌, refl, ◌∙◌, if◌then◌else◌}
use Rattle.std.proofs.lemmas.List.{append-nil}
use Rattle.std.proofs.lemmas.List.Elements.{filter-append}
use Rattle.elf_read.specs.Checking.{numbers_below}

abbrev pub with_one : Bool → ℕ → List ℕ → List ℕ
with_one kept i before = if kept then before ++ i ∷ [] else before

pub filter_none : (p : ℕ → Bool) → filter p (numbers_below 0) ≡ []
unfolding numbers_below
filter_none p = refl

pub filter_suc : (p : ℕ → Bool) (n : ℕ) → filter p (numbers_below (suc n)) ≡ with_one (p n) n (filter p (numbers_below n))
unfolding numbers_below
filter_suc p n = filter-append p (numbers_below n) (n ∷ []) ∙ last (p n)
  where
    last : (b : Bool) → filter p (numbers_below n) ++ cond b (n ∷ []) [] ≡ with_one b n (filter p (numbers_below n))
    last true = refl
    last false = append-nil (filter p (numbers_below n))
