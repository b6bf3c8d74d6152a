-- Consecutive steps: the first fault counts.
use Rattle.std.specs.Prelude.{Result, Ok, Err}

-- a step that follows another one, whose fault comes first
infixl 10 ◌>>=◌
abbrev pub ◌>>=◌ : {A B F : Type 0} → Result A F → (A → Result B F) → Result B F
(Ok x) >>= f = f x
(Err fault) >>= f = Err fault

-- a fault under another name
abbrev pub named : {A F G : Type 0} → (F → G) → Result A F → Result A G
named name (Ok x) = Ok x
named name (Err fault) = Err (name fault)
