-- Inside the crate. What is known of the order of segments.
use Rattle.std.specs.Prelude.{◌≡◌, true, List}
use Rattle.sf_lookup.specs.Spans.{InOrder}
use Rattle.core_notes.specs.declared.memory.Order.{Order}
use Rattle.core_notes.specs.declared.memory.Order.TheVariants.{Rising, Unknown, Put}
use Rattle.core_notes.specs.Memory.{holdings, rise_from}
use Rattle.core_notes.specs.Segment.{SegmentView}

-- this is true of the order of segments: their addresses rise, nothing is known, or these spans are those of the segments
abbrev pub IsOrder : Order → List SegmentView → Type 0
IsOrder Rising ss = rise_from 0 ss ≡ true
IsOrder Unknown ss = Unit {0}
IsOrder (Put spans) ss = InOrder spans.now (holdings 0 ss)
