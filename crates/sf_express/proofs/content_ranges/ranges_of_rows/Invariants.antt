use Rattle.std.proofs.Common.{◌≡◌, map, take}
use Rattle.sf_express.specs.ContentRanges.{range_of_row}
use Rattle.sf_express.proofs.content_ranges.ranges_of_rows.Given as goal

abbrev pub invariant-loop-row : goal.invariant-loop-row
invariant-loop-row l = l.ranges.items ≡ map range_of_row (take l.row-index l.rows)
