use Rattle.std.proofs.Common.{◌≡◌, map}
use Rattle.sf_express.specs.ContentRanges.{range_of_row}
use Rattle.sf_verify.proofs.dwarf_cursor.hold_kept.Given as goal

abbrev pub invariant-loop-row : goal.invariant-loop-row
invariant-loop-row l = record {
  start : l.held.start ≡ l.head.start;
  size : l.held.size ≡ l.head.size;
  key : l.held.key ≡ l.head.key;
  ranges : l.held.ranges.items ≡ map range_of_row l.yielded;
}
