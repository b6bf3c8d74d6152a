use Rattle.std.proofs.Common.{◌≡◌, ◌≤◌, ◌+◌, ◌-◌, ◌*◌, ◌^◌}
use Rattle.sf_decode.specs.Checking.{sum_from}
use Rattle.sf_decode.specs.Decoding.{rows_of_entry}
use Rattle.sf_decode.proofs.parsing.rows_of_entries.Given as goal

abbrev pub invariant-loop-i : goal.invariant-loop-i
invariant-loop-i l =
    (l.sum ≤ 2 ^ 32 * l.i) × (l.sum + sum_from l.i (l.count - l.i) (rows_of_entry l.bytes) ≡ sum_from 0 l.count (rows_of_entry l.bytes))
