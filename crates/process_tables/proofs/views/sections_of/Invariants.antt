use Rattle.std.specs.List.{AllZip}
use Rattle.std.proofs.Common.{◌≡◌, List, map, take}
use Rattle.sf_modules.specs.Module.{module_view}
use Rattle.process_tables.specs.Modules.{MappedModule}
use Rattle.process_tables.specs.Views.{IsTableOf, section_view}
use Rattle.process_tables.proofs.views.sections_of.Given as goal

-- the modules of the tables so far
abbrev pub invariant-loop-made : goal.invariant-loop-made
invariant-loop-made l = (modules : List MappedModule) → AllZip IsTableOf modules l.tables → map module_view l.sections.items ≡ map section_view (take l.made-index modules)
