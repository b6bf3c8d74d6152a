-- What a sink was given.
use Rattle.std.specs.Prelude.{◌≡◌, ◌++◌, ℕ, List, Option, take}
use Rattle.sf_base.specs.Known.{OnKnown}

-- these bytes were appended
abbrev pub Appends : Option (List ℕ) → Option (List ℕ) → List ℕ → Type 0
Appends before after piece = OnKnown before after (λ old new. new ≡ old ++ piece)

-- a prefix of these bytes was appended
abbrev pub AppendsPrefix : Option (List ℕ) → Option (List ℕ) → List ℕ → Type 0
AppendsPrefix before after bytes = OnKnown before after (λ old new. (n : ℕ) × (new ≡ old ++ take n bytes))

-- nothing was appended
abbrev pub Kept : Option (List ℕ) → Option (List ℕ) → Type 0
Kept before after = OnKnown before after (λ old new. new ≡ old)
