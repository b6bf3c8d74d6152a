-- Inside the crate. Segments that were put in order.
use Rattle.std.specs.Prelude.{◌≡◌, ℕ, List, Option, Some}
use Rattle.sf_lookup.specs.declared.spans.Spans.{Spans}
use Rattle.sf_lookup.specs.Spans.{InOrder}
use Rattle.core_notes.specs.Memory.{holdings}
use Rattle.core_notes.specs.Segment.{SegmentView}

-- the spans that were put in order, if there are any, are those of these segments
abbrev pub ArePut : Option (Spans ℕ) → List SegmentView → Type 0
ArePut spans ss = (s : Spans ℕ) → spans ≡ Some s → InOrder s (holdings 0 ss)
