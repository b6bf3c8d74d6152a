use Rattle.std.proofs.Common.{◌≡◌, None}
use Rattle.cfa_machine.specs.Left.{rows_left, steps_left}
use Rattle.sf_express.specs.ContentRanges.{ranges_of}
use Rattle.sf_express.specs.Run.{on_rows}
use Rattle.sf_express.proofs.RangesOfRows.{ranges_and_left}
use Rattle.sf_express.proofs.content_ranges.ranges_run.Given as goal

abbrev pub invariant-loop-ranges : goal.invariant-loop-ranges
invariant-loop-ranges l = ranges_and_left l.arch l.ranges.items l.last (rows_left l.run) ≡ on_rows (ranges_of l.arch None) (rows_left l.initial.run)

abbrev pub decreases-loop-ranges : goal.decreases-loop-ranges
decreases-loop-ranges l = steps_left l.run
