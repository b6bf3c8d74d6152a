use Rattle.std.proofs.Common.{◌≡◌, ◌++◌, drop, map}
use Rattle.std.specs.List.{flat_map}
use Rattle.sf_write.specs.Stored.{stored_in}
use Rattle.sf3_write.specs.Attributes.{data_bytes}
use Rattle.sf3_write.proofs.section.push_all_data.Given as goal

-- what is there and the data of the functions that are left are all that is to be there
abbrev pub invariant-loop-number : goal.invariant-loop-number
invariant-loop-number g l =
    let listed = g.L.StoredList.listed l.functions in
    l.bytes.items ++ flat_map data_bytes (map (stored_in l.rows) (drop l.number listed))
    ≡ l.initial.bytes.items ++ flat_map data_bytes (map (stored_in l.rows) listed)
