use Rattle.cfa_machine.specs.Left.{rows_left, steps_left}
use Rattle.sf_express.proofs.Running.{Continues}
use Rattle.sf_express.proofs.run.run_all.Given as goal

abbrev pub invariant-loop-start : goal.invariant-loop-start
invariant-loop-start l = Continues (rows_left l.initial.run) (rows_left l.run)

abbrev pub decreases-loop-start : goal.decreases-loop-start
decreases-loop-start l = steps_left l.run
