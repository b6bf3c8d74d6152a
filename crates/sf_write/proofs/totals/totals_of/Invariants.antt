use Rattle.std.proofs.Common.{◌≡◌, take}
use Rattle.sf_write.specs.Stored.{stored_count, stored_len}
use Rattle.sf_write.proofs.totals.totals_of.Given as goal

abbrev pub invariant-loop-number : goal.invariant-loop-number
invariant-loop-number g l =
    let listed = g.L.StoredList.listed l.functions in
    (l.rows ≡ stored_count (take l.number listed)) × (l.row_bytes ≡ stored_len (take l.number listed))
