use Rattle.std.proofs.Common.{◌≡◌, ◌++◌, take}
use Rattle.std.specs.Prelude.{IsTrue}
use Rattle.std.specs.List.{flat_map, list_all}
use Rattle.sf_write.specs.Room.{offsets_fit}
use Rattle.sf_write.specs.Row.{narrow_row}
use Rattle.sf_write.proofs.row.push_rows.Given as goal

-- after what was there are the rows so far
abbrev pub invariant-loop-row : goal.invariant-loop-row
invariant-loop-row l = record {
  rows : l.bytes.items ≡ l.initial.bytes.items ++ flat_map (narrow_row l.width) (take l.row-index l.rows);
  fits : IsTrue (list_all offsets_fit (take l.row-index l.rows));
}
