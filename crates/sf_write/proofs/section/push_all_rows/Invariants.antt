use Rattle.std.proofs.Common.{◌≡◌, ◌++◌, drop, map}
use Rattle.std.specs.List.{flat_map}
use Rattle.sf_model.specs.declared.function.Func.{Func}
use Rattle.sf_write.specs.Row.{rows_bytes}
use Rattle.sf_write.specs.Stored.{stored_in}
use Rattle.sf_write.proofs.section.push_all_rows.Given as goal

-- what is there and the rows of the functions that are left are all that is to be there
abbrev pub invariant-loop-number : goal.invariant-loop-number
invariant-loop-number g l =
    let listed = g.L.StoredList.listed l.functions in
    l.bytes.items ++ flat_map (λ (f : Func). rows_bytes f.rows) (map (stored_in l.rows) (drop l.number listed))
    ≡ l.initial.bytes.items ++ flat_map (λ (f : Func). rows_bytes f.rows) (map (stored_in l.rows) listed)
