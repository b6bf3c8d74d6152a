-- Inside the crate. Bytes that go to a sink through a buffer.
use Rattle.std.specs.Prelude.{◌≡◌, ◌++◌, ℕ, List, Option}
use Rattle.sf_base.specs.Known.{OnKnown}

-- A piece was written; it and what the buffer holds after it are what the buffer held before it and these bytes.
pub record IsGathered (held holds bytes old new : List ℕ) : Type 0 where
  pub piece : List ℕ
  pub written : new ≡ old ++ piece
  pub all : piece ++ holds ≡ held ++ bytes

-- such a piece went to a sink whose bytes are known before and after
abbrev pub Gathers : (before after : Option (List ℕ)) → (held holds bytes : List ℕ) → Type 0
Gathers before after held holds bytes = OnKnown before after (λ old new. IsGathered held holds bytes old new)
