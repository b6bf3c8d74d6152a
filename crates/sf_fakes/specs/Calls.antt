-- The calls of an object in memory, some of which are to fail.
use Rattle.std.specs.Prelude.{◌+◌, ◌-◌, ◌^◌, ℕ, List, min, Contains}

-- the number of the call that comes after these: the first is number 1
abbrev pub next_call : ℕ → ℕ
next_call made = min (made + 1) (2 ^ 64 - 1)

-- that call is listed among those that are to fail
abbrev pub IsListed : List ℕ → ℕ → Type 0
IsListed fails made = Contains fails (next_call made)
