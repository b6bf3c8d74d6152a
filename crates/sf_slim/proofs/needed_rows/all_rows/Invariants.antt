use Rattle.std.proofs.Common.{◌≡◌}
use Rattle.sf_slim.proofs.needed_rows.all_rows.Given as goal

abbrev pub invariant-loop-row : goal.invariant-loop-row
invariant-loop-row l = l.all ≡ l.yielded
