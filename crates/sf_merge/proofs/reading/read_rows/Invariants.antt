use Rattle.std.proofs.Common.{◌≡◌}
use Rattle.sf_merge.proofs.reading.read_rows.Given as goal

abbrev pub invariant-loop-row : goal.invariant-loop-row
invariant-loop-row l = l.rows ≡ l.yielded
