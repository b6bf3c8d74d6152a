-- GNU SFrame specification, Version 2: the functions of several sections put together, as a linker makes one section of them.
use Rattle.std.specs.Prelude.{◌≡◌, ◌+◌, ◌≤◌, ◌<◌, ◌&&◌, ◌⊎◌, Bool, nat_lt, List, length}
use Rattle.std.specs.List.{All, AllPairs, AllAdjacentBelow, filter, flat_map}
use Rattle.std.specs.List.Sorted.{IsPermutation}
use Rattle.sf_model.specs.declared.machine.Arch.{Arch}
use Rattle.sf_model.specs.declared.function.Func.{Func}
use Rattle.sf_model.specs.Table.{Table}

-- the function's size is not 0, and it has a row
abbrev pub is_of_use : Func → Bool
is_of_use f = nat_lt 0 f.size && nat_lt 0 (length f.rows)

-- the functions of all tables, in the order of tables and entries
abbrev pub all_functions : List Table → List Func
all_functions tables = flat_map (λ (table : Table). table.functions) tables

-- the two functions share no address: one of them has size 0, or one ends at or before the start of the other
abbrev pub IsApart : Func → Func → Type 0
IsApart f g = (f.size ≡ 0) ⊎ (g.size ≡ 0) ⊎ (f.start + f.size ≤ g.start) ⊎ (g.start + g.size ≤ f.start)

-- These are the functions of use of the tables, by rising start and unchanged; the tables have this one architecture, and no
-- two of their functions share an address, not even functions of no use.
pub record IsUnion (arch : Arch) (tables : List Table) (functions : List Func) : Type 0 where
  pub one_machine : All (λ (table : Table). table.arch ≡ arch) tables
  pub apart : AllPairs IsApart (all_functions tables)
  pub taken : IsPermutation (filter is_of_use (all_functions tables)) functions
  pub rising : AllAdjacentBelow (λ (f : Func) (g : Func). f.start < g.start) functions (length functions)
