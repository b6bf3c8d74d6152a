use Rattle.std.proofs.Common.{◌≡◌, ◌≤◌, ◌*◌, ◌^◌, map, take}
use Rattle.sf_decode.specs.View.{table_of}
use Rattle.sf_merge.specs.Merging.{functions_in_all, rows_in_all}
use Rattle.sf_merge.proofs.checking.check_limits.Given as goal

abbrev pub invariant-loop-view : goal.invariant-loop-view
invariant-loop-view l = record {
  functions : l.functions ≡ functions_in_all (map table_of (take l.view-index l.views));
  few_functions : l.functions ≤ l.view-index * 2 ^ 21;
  rows : l.rows ≡ rows_in_all (map table_of (take l.view-index l.views));
  few_rows : l.rows ≤ l.view-index * 2 ^ 24;
}
