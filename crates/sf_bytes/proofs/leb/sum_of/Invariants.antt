use Rattle.std.proofs.Common.{◌≡◌, ◌≤◌, drop, length}
use Rattle.sf_bytes.specs.Leb.{leb_sum}
use Rattle.sf_bytes.proofs.leb.sum_of.Given as goal

abbrev pub invariant-loop-left : goal.invariant-loop-left
invariant-loop-left l = record {
  within : l.left ≤ length l.run;
  sum : l.sum ≡ leb_sum (drop l.left l.run);
}

abbrev pub decreases-loop-left : goal.decreases-loop-left
decreases-loop-left l = l.left
