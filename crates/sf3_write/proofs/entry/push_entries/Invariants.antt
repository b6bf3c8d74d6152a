use Rattle.std.proofs.Common.{◌≡◌, ◌+◌, ◌*◌, ◌++◌, take, drop}
use Rattle.std.specs.Prelude.{IsTrue}
use Rattle.std.specs.List.{list_all}
use Rattle.sf_write.specs.Stored.{stored_fits, stored_len}
use Rattle.sf3_write.specs.Stored.{stored_entries}
use Rattle.sf3_write.proofs.entry.push_entries.Given as goal

-- what is there and the entries that are left are all that is to be there
abbrev pub invariant-loop-number : goal.invariant-loop-number
invariant-loop-number g l =
    let listed = g.L.StoredList.listed l.functions in
    record {
      placed : l.place ≡ 5 * l.number + stored_len (take l.number listed);
      entries : l.bytes.items ++ stored_entries l.at l.number l.place (drop l.number listed) ≡ l.initial.bytes.items ++ stored_entries l.at 0 0 listed;
      fits : IsTrue (list_all stored_fits (take l.number listed));
    }
