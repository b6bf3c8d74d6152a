-- An object of the outside counts its faults. A count never falls, stops at the greatest number of 64 bits, and doesn't change in a
-- call that succeeds.
use Rattle.std.specs.Prelude.{◌≡◌, ◌⊎◌, ◌<◌, ◌≤◌, ◌+◌, ◌-◌, ◌^◌, ℕ, Result, IsErr, IsOk, min}

-- the count after one more fault
abbrev pub one_more : ℕ → ℕ
one_more faults = min (faults + 1) (2 ^ 64 - 1)

-- the count is greater than before, or is at the greatest number
abbrev pub Rose : ℕ → ℕ → Type 0
Rose before after = (before < after) ⊎ (after ≡ 2 ^ 64 - 1)

-- the count did not fall, and it rose if the call failed
pub record Cause {T E : Type 0} (before after : ℕ) (result : Result T E) : Type 0 where
  pub later : before ≤ after
  pub failed : IsErr result → Rose before after
  pub done : IsOk result → after ≡ before
