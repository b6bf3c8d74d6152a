use Rattle.std.proofs.Common.{◌≡◌, All, take, drop}
use Rattle.sf3_write.specs.Stored.{HasFewRows, first_stored_with_too_many_rows}
use Rattle.sf3_write.proofs.rows.check_rows.Given as goal

-- those so far have few rows, and the first with too many is among those that are left
abbrev pub invariant-loop-number : goal.invariant-loop-number
invariant-loop-number g l =
    let listed = g.L.StoredList.listed l.functions in
    record {
      each : All HasFewRows (take l.number listed);
      first : first_stored_with_too_many_rows (drop l.number listed) ≡ first_stored_with_too_many_rows listed;
    }
