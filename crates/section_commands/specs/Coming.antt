-- What a run comes to over the bytes of its items: a refusal, a limit that is exceeded, or what is made.
use Rattle.std.specs.Prelude.{◌≡◌, ℕ, List, [], Option, Some, None}
use Rattle.sf_model.specs.FaultShown.{FaultShown}
use Rattle.sf_words.specs.declared.refusal.Limit.{Limit}
use Rattle.section_commands.specs.declared.made.Outcome.{Outcome}

-- An item is refused, with what the line shows; a limit is exceeded; or something is made: with this outcome, a section or none, a text, and
-- notes, which go to the errors.
pub data Coming : Type 0 where
  Refused : (shown : FaultShown) → Coming
  Exceeded : (limit : Limit) → Coming
  MakesNoting : (outcome : Outcome) → (section : Option (List ℕ)) → (text notes : List ℕ) → Coming

-- something is made, and nothing is noted
abbrev pub Makes : (outcome : Outcome) → (section : Option (List ℕ)) → (text : List ℕ) → Coming
Makes outcome section text = MakesNoting outcome section text []

-- the limits of loading come first: one that is exceeded, or else what the command comes to
abbrev pub ComesWithin : Option Limit → (Coming → Type 0) → Coming → Type 0
ComesWithin (Some limit) Then coming = coming ≡ Exceeded limit
ComesWithin None Then coming = Then coming
