use Rattle.std.proofs.Common.{◌-◌, length}
use Rattle.sf_verify.specs.Counting.{StartBefore}
use Rattle.sf_verify.proofs.counts.pass.Given as goal

abbrev pub invariant-loop-next : goal.invariant-loop-next
invariant-loop-next l = StartBefore l.functions l.next l.start

abbrev pub decreases-loop-next : goal.decreases-loop-next
decreases-loop-next l = length l.functions - l.next
