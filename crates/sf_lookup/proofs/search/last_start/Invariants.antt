use Rattle.std.proofs.Common.{◌-◌}
use Rattle.sf_lookup.proofs.Halving.{Halving}
use Rattle.sf_lookup.proofs.search.last_start.Given as goal

abbrev pub invariant-loop-low : goal.invariant-loop-low
invariant-loop-low g l = Halving (g.S.Starts.starts l.starts) l.pc l.low l.high l.fn.steps l.steps

abbrev pub decreases-loop-low : goal.decreases-loop-low
decreases-loop-low g l = l.high - l.low
