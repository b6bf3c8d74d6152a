-- The section that upgrading returns, or its fault (GNU SFrame specification, Version 3).
use Rattle.std.specs.Prelude.{◌≡◌, ◌⊎◌, ℕ, List, [], ◌∷◌, length, map, Ok, Err}
use Rattle.sf_model.specs.declared.function.Func.{Func}
use Rattle.sf_model.specs.declared.recovery.Regs.{Regs}
use Rattle.sf_model.specs.Lookup as version_2
use Rattle.sf_model.specs.Memory.{Region}
use Rattle.sf_model.specs.Section.{AreBytes}
use Rattle.sf_model.specs.Table.{Table, row_count}
use Rattle.sf_model.specs.Union.{IsUnion}
use Rattle.sf_model.specs.Walk.{recover_by_rows}
use Rattle.sf3_model.specs.Described.{Described, ordinary}
use Rattle.sf3_model.specs.Lookup.{found_alike, found_at, step_alike, step_at}
use Rattle.sf3_write.specs.Section.{table_of}
use Rattle.sf3_write.specs.Tight.{Tight}
use Rattle.sf3_upgrade.specs.declared.fault.UpgradeFault.{UpgradeFault}
use Rattle.sf3_upgrade.specs.declared.fault.UpgradeFault.TheVariants.{NoMemory}
use Rattle.sf3_upgrade.specs.Upgrading.{Upgrades}

-- At each address the functions have in Version 3 the row that the table has there in Version 2, and nothing where it has none. The
-- same is recovered there.
pub record FindAlike (table : Table) (functions : List Described) : Type 0 where
  pub found : (pc : ℕ) → found_at functions pc ≡ found_alike (version_2.found_at table.functions pc)
  pub recovered : (pc : ℕ) (regs : Regs) (memory : List Region) → step_at functions memory pc regs ≡ step_alike (recover_by_rows table.functions memory pc regs)

-- This section is that of the functions that have rows, of the section of these bytes and this table, without gaps and with the least
-- widths, and these are the numbers of its functions and rows. A look-up finds in it what it finds in the given section.
pub record IsUpgraded (bytes : List ℕ) (table : Table) (at : ℕ) (section : List ℕ) (count rows : ℕ) : Type 0 where
  pub functions : List Func
  pub are : Upgrades bytes table (Ok functions)
  pub union : IsUnion table.arch (table ∷ []) functions
  pub finds : FindAlike table (map ordinary functions)
  pub tight : Tight section at (table_of table.arch functions)
  pub are_bytes : AreBytes section
  pub count_is : count ≡ length functions
  pub rows_are : rows ≡ row_count functions

-- the fault is the first one, or memory ran out
abbrev pub IsFirstFault : (bytes : List ℕ) → Table → UpgradeFault → Type 0
IsFirstFault bytes table fault = (fault ≡ NoMemory) ⊎ Upgrades bytes table (Err fault)
