-- GNU SFrame specification, Version 2, function descriptor entries: the functions of several sections, in the order of their
-- addresses.
use Rattle.std.specs.Prelude.{ℕ, Bool, nat_lt, List, map}
use Rattle.std.specs.List.{enumerate_from, filter, flat_map}
use Rattle.sf_model.specs.declared.function.Func.{Func}
use Rattle.sf_model.specs.Table.{Table}
use Rattle.sf_merge.specs.declared.located.Located.{Located}

-- a function by its section and its entry, both numbered from 0
abbrev pub at_entry : (item : ℕ) → ℕ × Func → Located
at_entry item entry = record { func = entry.1; item = item; number = entry.0 }

-- the functions of a section, in the order of its entries
abbrev pub located : (item : ℕ) → Table → List Located
located item table = map (at_entry item) (enumerate_from 0 table.functions)

-- the functions of all sections, in the order of sections and entries
abbrev pub all_located : List Table → List Located
all_located tables = flat_map (λ (section : ℕ × Table). located section.0 section.1) (enumerate_from 0 tables)

-- the function holds an address: its size isn't 0
abbrev pub is_sized : Located → Bool
is_sized l = nat_lt 0 l.func.size

-- the functions of all sections that hold an address
abbrev pub sized_in_all : List Table → List Located
sized_in_all tables = filter is_sized (all_located tables)

-- the functions alone
abbrev pub located_functions : List Located → List Func
located_functions ordered = map (λ (l : Located). l.func) ordered

-- the function's first address. Functions in the order of their starts (IsInOrder) have those of one start in the order of sections,
-- and then of entries
abbrev pub located_start : Located → ℕ
located_start l = l.func.start

-- the function's size in bytes
abbrev pub located_size : Located → ℕ
located_size l = l.func.size
