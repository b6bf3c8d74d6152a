-- Spans of addresses put in order, where the first that has an address decides: points of addresses, from each of which
-- on the same span comes first up to the next point.
use Rattle.std.specs.Prelude.{ℕ, zero, suc, ◌+◌, ◌^◌, ◌<◌, ◌≤◌, Bool, ◌&&◌, nat_le, nat_lt, List, length, slice_index, slice_index_or, Option, None}
use Rattle.std.specs.List.{Contains, find}
use Rattle.std.specs.Option.{option_map}
use Rattle.sf_lookup.specs.declared.span.Span.{Span}

-- the span has the address
abbrev pub covers : {A : Type 0} → (pc : ℕ) → Span A → Bool
covers pc s = nat_le s.start pc && nat_lt pc (s.start + s.size)

-- where the first span that has an address leads to
abbrev pub answer_of : {A : Type 0} → List (Span A) → (pc : ℕ) → Option A
answer_of spans pc = option_map (λ (s : Span _). s.leads_to) (find (covers pc) spans)

-- Inside the crate: those ends of a span that are addresses are points
pub record HasEnds {A : Type 0} (points : List ℕ) (s : Span A) : Type 0 where
  pub start : Contains points s.start
  pub end : s.start + s.size < 2 ^ 64 → Contains points (s.start + s.size)

-- n points are at an address or before it: the first n of them
pub record IsReached (points : List ℕ) (pc n : ℕ) : Type 0 where
  pub within : n ≤ length points
  pub reached : (k : ℕ) → k < n → slice_index points k ≤ pc
  pub above : (k : ℕ) → n ≤ k → k < length points → pc < slice_index points k

-- the answer at the last of n points
abbrev pub answer_at : {A : Type 0} → List (Option A) → (n : ℕ) → Option A
answer_at answers zero = None
answer_at answers (suc i) = slice_index_or answers i None
