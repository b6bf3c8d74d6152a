-- Checks that return the first fault.
use Rattle.std.specs.Prelude.{ℕ, zero, suc, ◌+◌, Result, Ok}
use Rattle.sf_decode.specs.declared.fault.DecodeFault.{DecodeFault}
pub use Rattle.sf_model.specs.Checking.{unless, where_so, ◌>>◌, verdict}

-- the result of a check: nothing is wrong, or the fault
abbrev pub Check : Type 0
Check = Result (Unit {0}) DecodeFault

-- the same check of `count` items, from the first number on
unfoldable pub each_from : (first count : ℕ) → (ℕ → Check) → Check
each_from first zero check = Ok tt
each_from first (suc count) check = check first >> each_from (first + 1) count check

-- the sum of a number of each of `count` items, from the first number on
unfoldable pub sum_from : (first count : ℕ) → (ℕ → ℕ) → ℕ
sum_from first zero number = 0
sum_from first (suc count) number = number first + sum_from (first + 1) count number
