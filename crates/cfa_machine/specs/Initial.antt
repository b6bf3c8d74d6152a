-- The initial row of a common information entry: the row that its instructions give, before those of a function are run
-- (DWARF 5, section 6.4.3).
use Rattle.std.specs.Prelude.{◌≡◌, ℤ, List, Ok}
use Rattle.sf_model.specs.declared.machine.Arch.{Arch}
use Rattle.cfa_insn.specs.Listing.{Item}
use Rattle.cfa_machine.specs.declared.columns.Columns.{Columns}
use Rattle.cfa_machine.specs.Columns.{no_columns}
use Rattle.cfa_machine.specs.Pass.{initial_columns}

-- these instructions run, and give this row
abbrev pub IsInitial : Arch → (factor : ℤ) → (cie : List Item) → Columns → Type 0
IsInitial arch factor cie initial = initial_columns arch factor no_columns cie ≡ Ok initial
