-- Inside the crate. A scan of spans from the least address up.
use Rattle.std.specs.Prelude.{ℕ, ◌+◌, ◌<◌, ◌≤◌, ◌⊎◌, List, All, length, slice_index_or}
use Rattle.std.specs.BinaryHeap.{IsHeap, heap_items}
use Rattle.std.specs.List.{Contains}
use Rattle.std.specs.List.Sorted.{IsNonDecreasingBy}
use Rattle.std.specs.Ordering.{nat_cmp}
use Rattle.std.specs.declared.cmp.Ordering.{Ordering}
use Rattle.std.specs.declared.cmp.Reverse.{Reverse}
use Rattle.sf_lookup.specs.declared.span.Span.{Span}
use Rattle.sf_lookup.specs.declared.sweep.Sweep.{Sweep}
use Rattle.sf_lookup.specs.Begins.{span_start}

-- a span of the list that begins by the point
pub record HasBegun {A : Type 0} (spans : List (Span A)) (point : ℕ) (r : Reverse ℕ) : Type 0 where
  pub within : r.0 < length spans
  pub by : span_start spans r.0 ≤ point

-- the span with a number waits, begins later, or has ended by the point
abbrev pub IsKept : {A : Type 0} → List (Span A) → (point : ℕ) → List (Reverse ℕ) → List ℕ → (k : ℕ) → (d : Span A) → Type 0
IsKept spans point begun later k d =
    let s = slice_index_or spans k d in
    Contains begun (record { 0 = k }) ⊎ Contains later k ⊎ (s.start + s.size ≤ point)

-- the order of numbers in which the least is the greatest
abbrev pub last_first : Reverse ℕ → Reverse ℕ → Ordering
last_first x y = nat_cmp y.0 x.0

-- the spans that have begun by a point, and those that begin later: no span that has the point or a later
-- address is missing
pub record IsAtPoint {A : Type 0} (spans : List (Span A)) (point : ℕ) (begun : List (Reverse ℕ)) (later : List ℕ) : Type 0 where
  pub order : IsHeap last_first begun
  pub by : All (HasBegun spans point) begun
  pub rise : IsNonDecreasingBy (span_start spans) later
  pub each : All (λ (k : ℕ). k < length spans) later
  pub kept : (k : ℕ) (d : Span A) → k < length spans → IsKept spans point begun later k d

-- what a sweep has at a point: the spans that have begun, and those that begin later
abbrev pub IsAt : {A : Type 0} → (point : ℕ) → Sweep A → Type 0
IsAt point sweep = IsAtPoint sweep.spans.now point (heap_items sweep.begun) sweep.later.now

-- all spans that have not begun begin after the point
abbrev pub AllLater : {A : Type 0} → (point : ℕ) → Sweep A → Type 0
AllLater point sweep = All (λ (k : ℕ). point < span_start sweep.spans.now k) sweep.later.now
