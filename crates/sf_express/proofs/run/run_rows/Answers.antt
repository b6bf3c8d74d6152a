use Rattle.std.proofs.Common.{rules}
use Rattle.cfa_machine.proofs.InstructionLoops.{row_follows, none_follows}
use Rattle.sf_express.proofs.Running.{is_done, none_packed, omits, packs_on, says_same}
use Rattle.sf_express.proofs.run.run_rows.Goals as goal

pub loop-start-init : goal.loop-start-init
loop-start-init c = record {
  so_far = none_packed _ _ _ c.restart.ensures.empty;
  room = c.restart.ensures.room;
  limit = search rules;
}

pub loop-start-preserved : goal.loop-start-preserved
loop-start-preserved c = record {
  so_far = packs_on _ _ _ _ _ _ _ _ _ _ (row_follows _ _ _ _ _ c.in-Some.is c.in_ok-start.ensures.follows) (says_same _ _ _ _ _ c.columns.ensures (c.in-Ok.ensures.exact c.in-Some.start)) c.in_ok-append-in-Ok.ensures.packed c.loop-start.invariant.so_far;
  room = λ start le. c.in_ok-append-in-Ok.ensures.room start (c.loop-start.invariant.room start le);
  limit = search rules;
}

pub returns-in-Err : goal.returns-in-Err
returns-in-Err c = omits _ _ _ _ _ _ _ _ _ (row_follows _ _ _ _ _ c.in-Some.is c.in_ok-start.ensures.follows) (says_same _ _ _ _ _ c.columns.ensures (c.in-Err.ensures.exact c.in-Some.start)) c.in_ok-run_all-in-Err.ensures c.loop-start.invariant.so_far.same

pub returns : goal.returns
returns c =
    let so_far = c.loop-start.invariant.so_far in
    (so_far.rows, so_far.are, is_done _ _ _ _ _ (none_follows _ _ _ _ c.in_default.is c.in_ok-start.ensures.follows) so_far.same)
