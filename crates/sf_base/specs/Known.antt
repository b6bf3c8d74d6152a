-- What is known of an object of the outside: `None` if nothing is.
use Rattle.std.specs.Prelude.{Option, Some, None, ⊤}

-- If nothing is known after a call, nothing is claimed. What is known after it was known before it, and P relates the two.
abbrev pub OnKnown : {A : Type 0} → Option A → Option A → (A → A → Type 0) → Type 0
OnKnown before None P = ⊤
OnKnown None (Some new) P = ⊥
OnKnown (Some old) (Some new) P = P old new
