-- When a look-up in the modules of a process finds what it finds in one section that has all their functions (GNU SFrame specification,
-- Version 2).
use Rattle.std.specs.Prelude.{◌≡◌, ℕ, true, List, map, Some}
use Rattle.std.specs.List.{Contains}
use Rattle.sf_model.specs.declared.function.Func.{Func}
use Rattle.sf_model.specs.Lookup.{contains}
use Rattle.sf_model.specs.Table.{Table}
use Rattle.sf_modules.specs.Entry.{EntryView}
use Rattle.sf_modules.specs.Found.{module_at}
use Rattle.sf_modules.specs.Module.{ModuleView}

-- the tables of the modules' sections
abbrev pub tables_of : List ModuleView → List Table
tables_of modules = map (λ (m : ModuleView). m.table) modules

-- each address of each function of a module leads to that module
abbrev pub LeadsHome : List EntryView → List ModuleView → Type 0
LeadsHome entries modules =
    (m : ModuleView) (f : Func) (pc : ℕ) → Contains modules m → Contains m.table.functions f → contains pc f ≡ true → module_at entries modules pc ≡ Some m
