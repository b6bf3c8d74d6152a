-- Inside the crate. Spans of addresses in the order in which they begin.
use Rattle.std.specs.Prelude.{ℕ, zero, suc, ◌<◌, List, [], ◌∷◌, All, length}
use Rattle.std.specs.List.{Contains}
use Rattle.std.specs.List.Sorted.{IsNonDecreasingBy}
use Rattle.sf_lookup.specs.declared.span.Span.{Span}

-- where the span with a number begins, 0 for a number past the last
abbrev pub span_start : {A : Type 0} → List (Span A) → (number : ℕ) → ℕ
span_start [] number = 0
span_start (s ∷ spans) zero = s.start
span_start (s ∷ spans) (suc number) = span_start spans number

-- these are the numbers of the spans, in the order in which the spans begin
pub record AreByStart {A : Type 0} (spans : List (Span A)) (numbers : List ℕ) : Type 0 where
  pub rise : IsNonDecreasingBy (span_start spans) numbers
  pub each : All (λ (k : ℕ). k < length spans) numbers
  pub all : (k : ℕ) → k < length spans → Contains numbers k
