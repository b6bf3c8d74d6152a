-- Checks that give the first fault.
use Rattle.std.specs.Prelude.{ℕ, zero, suc, Bool, List, [], ◌∷◌, ◌++◌, Result, Ok}
pub use Rattle.sf_model.specs.Checking.{unless, where_so, ◌>>◌, verdict}

-- the same check of the first n items, from 0 on
unfoldable pub each_below : {E : Type 0} → ℕ → (ℕ → Result (Unit {0}) E) → Result (Unit {0}) E
each_below zero check = Ok tt
each_below (suc n) check = each_below n check >> check n

-- the numbers below n, in order
unfoldable pub numbers_below : ℕ → List ℕ
numbers_below zero = []
numbers_below (suc n) = numbers_below n ++ n ∷ []

-- a table of conditions, each with the fault of what breaks it: the fault of the first that is broken
abbrev pub first_broken : {E : Type 0} → List (Bool × E) → Result (Unit {0}) E
first_broken [] = Ok tt
first_broken (row ∷ rows) = unless row.0 row.1 >> first_broken rows
