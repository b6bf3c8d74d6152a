-- A process's entries as spans of addresses, each leading to the module that it names (Linux core files, NT_FILE).
use Rattle.std.specs.Prelude.{ℕ, ◌-◌, bytes_eq, List, Option}
use Rattle.std.specs.List.{find, position_from}
use Rattle.std.specs.Option.{option_and_then}
use Rattle.sf_lookup.specs.declared.span.Span.{Span}
use Rattle.sf_modules.specs.Entry.{EntryView, entry_contains}
use Rattle.sf_modules.specs.Module.{ModuleView}

-- the number of the first module of a name
abbrev pub number_of : (name : List ℕ) → List ModuleView → Option ℕ
number_of name modules = position_from (λ (m : ModuleView). bytes_eq name m.name) 0 modules

-- the addresses of an entry, and the number of the module that it names
abbrev pub entry_span : List ModuleView → EntryView → Span (Option ℕ)
entry_span modules e = record { start = e.start; size = e.end - e.start; leads_to = number_of e.name modules }

-- the number of the module at an address
abbrev pub module_number_at : List EntryView → List ModuleView → (pc : ℕ) → Option ℕ
module_number_at entries modules pc = option_and_then (λ (e : EntryView). number_of e.name modules) (find (entry_contains pc) entries)
