use Rattle.std.proofs.Common.{◌≡◌, map, take}
use Rattle.sf_lookup.specs.Indexed.{indexed_table}
use Rattle.sf_modules.specs.Module.{module_view}
use Rattle.sf_modules.specs.Union.{tables_of}
use Rattle.sf_modules.proofs.modules.sections_of.Given as goal

abbrev pub invariant-loop-item : goal.invariant-loop-item
invariant-loop-item l = map indexed_table l.sections.items ≡ tables_of (map module_view (take l.item-index l.modules))
