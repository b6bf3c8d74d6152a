-- The modules of a process (a program and its shared objects): each has a range of addresses and a section of its own.
use Rattle.std.specs.Prelude.{◌+◌, ◌≤◌, ◌&&◌, ℕ, Bool, nat_le, nat_lt, List, [], length, Option, Some, None}
use Rattle.std.specs.List.{AllAdjacentBelow, find}
use Rattle.sf_model.specs.declared.function.Func.{Func}
use Rattle.sf_model.specs.Lookup.{FoundRow, found_at}
use Rattle.sf_decode.specs.Kept.{functions_lent}
use Rattle.sf_c.specs.declared.modules.KiblawenModule.{KiblawenModule}

-- the module's range has the address
abbrev pub module_contains : (address : ℕ) → KiblawenModule → Bool
module_contains address m = nat_le m.start address && nat_lt address (m.start + m.size)

-- each module ends where the next one starts, or before
abbrev pub ModulesRise : List KiblawenModule → Type 0
ModulesRise modules = AllAdjacentBelow (λ (m : KiblawenModule) (n : KiblawenModule). m.start + m.size ≤ n.start) modules (length modules)

-- the functions of a module's section, if there is a module
abbrev pub functions_if_found : Option KiblawenModule → List Func
functions_if_found (Some m) = functions_lent m.section
functions_if_found None = []

-- the functions in which an address is looked up: those of the section of the module that has the address in its range
abbrev pub functions_at : List KiblawenModule → (address : ℕ) → List Func
functions_at modules address = functions_if_found (find (module_contains address) modules)

-- the row that holds at an address, by the functions of its module's section
abbrev pub module_row : List KiblawenModule → (address : ℕ) → Option FoundRow
module_row modules address = found_at (functions_at modules address) address
