-- Which kind each made function has: the generator of the C standard's example of rand (ISO C, "The rand function"),
-- with a state below 2^31 that begins as the number of functions.
use Rattle.std.specs.Prelude.{◌+◌, ◌*◌, ◌/◌, ◌%◌, ◌^◌, ℕ, zero, suc}

-- the next state
unfoldable pub next : ℕ → ℕ
next state = (state * 1103515245 + 12345) % 2 ^ 31

-- the state after `steps` steps
abbrev pub state_after : (seed steps : ℕ) → ℕ
state_after seed zero = seed
state_after seed (suc steps) = next (state_after seed steps)

-- a state's kind, from 0 to 3
unfoldable pub state_kind : (state : ℕ) → ℕ
state_kind state = state / 65536 % 4

-- the kind of a function, numbered from 0, of n in all
abbrev pub kind : (n i : ℕ) → ℕ
kind n i = state_kind (state_after n (i + 1))
