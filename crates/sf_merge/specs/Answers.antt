-- The section that merging returns, or its fault (GNU SFrame specification, Version 2).
use Rattle.std.specs.Prelude.{◌≡◌, ◌⊎◌, ℕ, List, All, length, Some, None, Ok, Err}
use Rattle.std.specs.List.{Contains}
use Rattle.sf_model.specs.declared.machine.Arch.{Arch}
use Rattle.sf_model.specs.declared.function.Func.{Func}
use Rattle.sf_model.specs.Lookup.{FoundRow, found_at}
use Rattle.sf_model.specs.Section.{AreBytes}
use Rattle.sf_model.specs.Table.{Table, row_count}
use Rattle.sf_model.specs.Tight.{Narrow, Tight}
use Rattle.sf_model.specs.Union.{IsUnion}
use Rattle.sf_write.specs.Section.{table_of}
use Rattle.sf_merge.specs.declared.fault.MergeFault.{MergeFault}
use Rattle.sf_merge.specs.declared.fault.MergeFault.TheVariants.{NoMemory}
use Rattle.sf_merge.specs.Merging.{Merges}

-- At each address the functions have the row that a table has there. Where no table has one, they have no row.
pub record FindAlike (tables : List Table) (functions : List Func) : Type 0 where
  pub found : (pc : ℕ) (table : Table) (row : FoundRow) → Contains tables table → found_at table.functions pc ≡ Some row → found_at functions pc ≡ Some row
  pub none : (pc : ℕ) → All (λ (table : Table). found_at table.functions pc ≡ None) tables → found_at functions pc ≡ None

-- These bytes are the sections merged into one at this address: there is no fault, and they are the section of the
-- union of the tables, without gaps and with the least widths. A look-up finds in this section what it finds in the
-- tables. It has this many functions and rows.
pub record IsMerged (tables : List Table) (at : ℕ) (section : List ℕ) (count rows : ℕ) : Type 0 where
  pub arch : Arch
  pub functions : List Func
  pub are : Merges tables at (Ok functions)
  pub union : IsUnion arch tables functions
  pub finds : FindAlike tables functions
  pub tight : Tight section at (table_of arch functions)
  pub narrow : Narrow section (table_of arch functions)
  pub are_bytes : AreBytes section
  pub count_is : count ≡ length functions
  pub rows_are : rows ≡ row_count functions

-- the fault is the first one, or memory ran out
abbrev pub IsFirstMergeFault : List Table → (at : ℕ) → MergeFault → Type 0
IsFirstMergeFault tables at fault = (fault ≡ NoMemory) ⊎ Merges tables at (Err fault)
