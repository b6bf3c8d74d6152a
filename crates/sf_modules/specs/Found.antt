-- What a process's modules have at an address (Linux core files, NT_FILE; GNU SFrame specification, Version 2): the first entry that
-- holds it says which file is there, and the first module of that name answers by its table.
use Rattle.std.specs.Prelude.{ℕ, bytes_eq, List, Option}
use Rattle.std.specs.List.{find}
use Rattle.std.specs.Option.{option_and_then}
use Rattle.sf_model.specs.Lookup.{found_at}
use Rattle.sf_model.specs.Memory.{Region}
use Rattle.sf_model.specs.Walk.{Listing, LookUp, ThreadState, look_up_walk}
use Rattle.sf_modules.specs.Entry.{EntryView, entry_contains}
use Rattle.sf_modules.specs.Module.{ModuleView}

-- the first module of a name
abbrev pub module_of : List ModuleView → (name : List ℕ) → Option ModuleView
module_of modules name = find (λ (m : ModuleView). bytes_eq name m.name) modules

-- the module at an address
unfoldable pub module_at : List EntryView → List ModuleView → (pc : ℕ) → Option ModuleView
module_at entries modules pc = option_and_then (λ (e : EntryView). module_of modules e.name) (find (entry_contains pc) entries)

-- the function and the row that hold at an address
unfoldable pub found_in : List EntryView → List ModuleView → LookUp
found_in entries modules pc = option_and_then (λ (m : ModuleView). found_at m.table.functions pc) (module_at entries modules pc)

-- the walk of a thread by the rows of the modules
abbrev pub modules_walk : List EntryView → List ModuleView → ThreadState → List Region → (depth : ℕ) → Listing
modules_walk entries modules thread memory depth = look_up_walk (found_in entries modules) thread memory depth
