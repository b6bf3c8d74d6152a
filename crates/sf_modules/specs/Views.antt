-- What a process's modules that were put in order show.
use Rattle.std.specs.Prelude.{List, map}
use Rattle.sf_modules.specs.declared.modules.Modules.{Modules}
use Rattle.sf_modules.specs.Entry.{EntryView, mapping_view}
use Rattle.sf_modules.specs.Module.{ModuleView, module_view}

-- the entries
abbrev pub entry_views : Modules → List EntryView
entry_views m = map mapping_view m.entries.now

-- the modules
abbrev pub modules_in : Modules → List ModuleView
modules_in m = map module_view m.modules.now
