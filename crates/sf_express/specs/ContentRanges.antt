-- The content of a function's rows from offset to offset, if SFrame Version 2 has a form for it (GNU SFrame specification, "SFrame
-- Frame Row Entries"): also of an omitted function, since a reason against one row is none against another.
use Rattle.std.specs.Prelude.{◌≡◌, ◌≢◌, ◌+◌, ◌<◌, ◌≤◌, ℕ, nat_le, Bool, true, false, List, [], ◌∷◌, Option, Some, None, Result, Ok, Err, if◌then◌else◌}
use Rattle.std.specs.List.{All}
use Rattle.sf_model.specs.declared.machine.Arch.{Arch}
use Rattle.sf_model.specs.declared.content.Content.{Content}
use Rattle.sf_model.specs.declared.omission.Reason.{Reason}
use Rattle.sf_model.specs.declared.rows.Row.{Row}
use Rattle.cfa_machine.specs.declared.row.DwRow.{DwRow}
use Rattle.sf_express.specs.declared.content_ranges.ContentRange.{ContentRange}
use Rattle.sf_express.specs.Expressed.{same_content}
use Rattle.sf_express.specs.Rules.{content_of}

-- the content, if there is no reason against it
abbrev pub content_in : Result Content Reason → Option Content
content_in (Ok content) = Some content
content_in (Err reason) = None

-- the content at an offset: that of the last range that begins by then, or what was found before
abbrev pub content_by : (offset : ℕ) → (found : Option (Option Content)) → List ContentRange → Option (Option Content)
content_by offset found [] = found
content_by offset found (p ∷ ranges) = if nat_le p.start offset then content_by offset (Some p.content) ranges else found

-- these ranges have at each offset below the size the content that holds there
abbrev pub RangesHave : (size : ℕ) → List ContentRange → (says : (offset : ℕ) → Option Content) → Type 0
RangesHave size ranges says = (offset : ℕ) → offset < size → content_by offset None ranges ≡ Some (says offset)

-- ---- ranges, from rows
-- whether two rows have the same content, or none
abbrev pub same_if_any : Option Content → Option Content → Bool
same_if_any None None = true
same_if_any None (Some content) = false
same_if_any (Some last) None = false
same_if_any (Some last) (Some content) = same_content last content

-- a row has the content of the row before
abbrev pub is_as_before : (last : Option (Option Content)) → Option Content → Bool
is_as_before None content = false
is_as_before (Some last) content = same_if_any last content

-- a range is kept unless its content is that of the row before
abbrev pub unless_again : (last : Option (Option Content)) → ContentRange → List ContentRange → List ContentRange
unless_again last range ranges = if is_as_before last range.content then ranges else range ∷ ranges

-- a row as a range
abbrev pub range_of : Arch → DwRow → ContentRange
range_of arch row = record { start = row.start; content = content_in (content_of arch row) }

-- a range where a row's content is not that of the row before
unfoldable pub ranges_of : Arch → (last : Option (Option Content)) → List DwRow → List ContentRange
ranges_of arch last [] = []
ranges_of arch last (row ∷ rows) = unless_again last (range_of arch row) (ranges_of arch (Some (content_in (content_of arch row))) rows)

-- a row of a section as a range
abbrev pub range_of_row : Row → ContentRange
range_of_row row = record { start = row.start; content = Some row.content }

-- ---- which lists of ranges there are
-- each start is at least the given one, and above the start before
abbrev pub RangesRise : (least : ℕ) → List ContentRange → Type 0
RangesRise least [] = Unit {0}
RangesRise least (p ∷ ranges) = (least ≤ p.start) × RangesRise (p.start + 1) ranges

-- the first range begins at 0
abbrev pub RangesBegin : List ContentRange → Type 0
RangesBegin [] = ⊥
RangesBegin (p ∷ ranges) = p.start ≡ 0

-- the ranges of a function of this size, which is not 0
pub record AreRanges (size : ℕ) (ranges : List ContentRange) : Type 0 where
  pub first : RangesBegin ranges
  pub rise : RangesRise 0 ranges
  pub below : All (λ (p : ContentRange). p.start < size) ranges

-- no range has the content of the one before
abbrev pub RangesDiffer : (last : Option (Option Content)) → List ContentRange → Type 0
RangesDiffer last [] = Unit {0}
RangesDiffer last (p ∷ ranges) = (last ≢ Some p.content) × RangesDiffer (Some p.content) ranges

-- the content of a function of this size, which is not 0, with a range where the content is not that before
pub record AreRangesOf (size : ℕ) (says : (offset : ℕ) → Option Content) (ranges : List ContentRange) : Type 0 where
  pub are : AreRanges size ranges
  pub say : RangesHave size ranges says
  pub differ : RangesDiffer None ranges
