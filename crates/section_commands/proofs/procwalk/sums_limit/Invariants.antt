use Rattle.std.proofs.Common.{◌≡◌, ◌≤◌, ◌*◌, ◌^◌, map, take}
use Rattle.sf_modules.specs.Module.{module_view}
use Rattle.sf_modules.specs.Union.{tables_of}
use Rattle.sf_merge.specs.Merging.{functions_in_all, rows_in_all}
use Rattle.section_commands.proofs.procwalk.sums_limit.Given as goal

abbrev pub invariant-loop-mapped : goal.invariant-loop-mapped
invariant-loop-mapped l = record {
  functions : l.functions ≡ functions_in_all (tables_of (map module_view (take l.mapped-index l.modules)));
  few_functions : l.functions ≤ l.mapped-index * 2 ^ 21;
  rows : l.rows ≡ rows_in_all (tables_of (map module_view (take l.mapped-index l.modules)));
  few_rows : l.rows ≤ l.mapped-index * 2 ^ 24;
}
