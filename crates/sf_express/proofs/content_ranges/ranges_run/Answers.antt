use Rattle.cfa_machine.proofs.InstructionLoops.{row_follows, none_follows}
use Rattle.sf_express.proofs.RangesOfRows.{goes_on, is_done}
use Rattle.sf_express.proofs.content_ranges.ranges_run.Goals as goal

pub loop-ranges-preserved : goal.loop-ranges-preserved
loop-ranges-preserved c =
    goes_on _ _ _ _ _ _ _ _ _ _ (row_follows _ _ _ _ _ c.in-Some.is c.in_ok-start.ensures.follows) (c.present_content-content.ensures c.in-Some.start) c.in_ok-append.ensures c.loop-ranges.invariant

pub returns : goal.returns
returns c = record { exact = is_done _ _ _ _ _ (none_follows _ _ _ _ c.in_default.is c.in_ok-start.ensures.follows) c.loop-ranges.invariant }
