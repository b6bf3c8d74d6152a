-- Inside the crate. GNU SFrame specification, Version 2, function descriptor entries: functions as spans of addresses.
use Rattle.std.specs.Prelude.{◌≡◌, ℕ, ◌+◌, List, [], ◌∷◌, Option, Some}
use Rattle.sf_model.specs.declared.function.Func.{Func}
use Rattle.sf_lookup.specs.declared.span.Span.{Span}
use Rattle.sf_lookup.specs.declared.spans.Spans.{Spans}
use Rattle.sf_lookup.specs.Spans.{InOrder}

-- functions that are numbered from `first` on: each at its addresses
abbrev pub numbered : (first : ℕ) → List Func → List (Span ℕ)
numbered first [] = []
numbered first (f ∷ functions) = record { start = f.start; size = f.size; leads_to = first } ∷ numbered (first + 1) functions

-- spans that were put in order are those of these functions, if there are any such spans
abbrev pub AreInOrder : Option (Spans ℕ) → List Func → Type 0
AreInOrder ordered functions = (s : Spans ℕ) → ordered ≡ Some s → InOrder s (numbered 0 functions)
