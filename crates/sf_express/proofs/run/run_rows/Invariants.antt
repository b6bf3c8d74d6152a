use Rattle.std.proofs.Common.{◌≡◌, ◌≤◌, None, ℕ}
use Rattle.cfa_machine.specs.Left.{limit, rows_left, steps_left}
use Rattle.sf_write.specs.Packed.{HasRoom}
use Rattle.sf_express.specs.Expressed.{expressed_rows}
use Rattle.sf_express.specs.Run.{on_rows}
use Rattle.sf_express.proofs.Running.{PackedSoFar}
use Rattle.sf_express.proofs.run.run_rows.Given as goal

abbrev pub invariant-loop-start : goal.invariant-loop-start
invariant-loop-start l = record {
  so_far : PackedSoFar l.arch l.kept l.last (rows_left l.run) (on_rows (expressed_rows l.arch None) (rows_left l.initial.run));
  room : (start : ℕ) → start ≤ l.last_offset → HasRoom l.kept start;
  limit : limit l.run ≡ limit l.initial.run;
}

abbrev pub decreases-loop-start : goal.decreases-loop-start
decreases-loop-start l = steps_left l.run
