use Rattle.std.proofs.Common.{◌≡◌, take}
use Rattle.sf_write.specs.Stored.{stored_count}
use Rattle.sf_functions.proofs.counts.count_rows.Given as goal

abbrev pub invariant-loop-number : goal.invariant-loop-number
invariant-loop-number g l = l.rows ≡ stored_count (take l.number (g.L.StoredList.listed l.functions))
