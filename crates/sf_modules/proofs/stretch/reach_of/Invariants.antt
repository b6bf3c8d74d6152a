use Rattle.sf_modules.proofs.Reached.{Reaching}
use Rattle.sf_modules.proofs.stretch.reach_of.Given as goal

abbrev pub invariant-loop-stretch : goal.invariant-loop-stretch
invariant-loop-stretch l = Reaching l.stretches l.stretch-index l.line l.end l.reach.items
