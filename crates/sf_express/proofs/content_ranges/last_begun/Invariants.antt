use Rattle.std.proofs.Common.{◌<◌, ◌≤◌, ◌-◌, get_or, length}
use Rattle.sf_express.specs.declared.content_ranges.ContentRange.{ContentRange}
use Rattle.sf_express.proofs.content_ranges.last_begun.Given as goal

abbrev pub invariant-loop-high : goal.invariant-loop-high
invariant-loop-high l = record {
  rises : l.low < l.high;
  within : l.high ≤ length l.ranges;
  begun : (d : ContentRange) → (get_or l.ranges l.low d).start ≤ l.offset;
  after : (d : ContentRange) → l.high < length l.ranges → l.offset < (get_or l.ranges l.high d).start;
}

abbrev pub decreases-loop-high : goal.decreases-loop-high
decreases-loop-high l = l.high - l.low
