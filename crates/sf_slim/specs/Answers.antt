-- The section that slimming returns, or its fault (GNU SFrame specification, Version 2).
use Rattle.std.specs.Prelude.{◌≡◌, ◌⊎◌, ℕ, List, All, length, Ok, Err}
use Rattle.sf_model.specs.declared.function.Func.{Func}
use Rattle.sf_model.specs.Section.{AreBytes}
use Rattle.sf_model.specs.Table.{Table, row_count}
use Rattle.sf_model.specs.Tight.{Narrow, Tight}
use Rattle.sf_write.specs.Section.{section_len, table_of}
use Rattle.sf_slim.specs.declared.fault.SlimFault.{SlimFault}
use Rattle.sf_slim.specs.declared.fault.SlimFault.TheVariants.{NoMemory}
use Rattle.sf_slim.specs.Shortest.{HasLeastRows, IsLeast, IsPlain, RecoverTheSame}
use Rattle.sf_slim.specs.Slim.{AreNeeded}
use Rattle.sf_slim.specs.Slimming.{Slims}

-- This section is that of what is needed of the section of these bytes and this table, without gaps and with the least
-- widths, and these are the numbers of its functions and rows. It recovers what the given section recovers. For none of
-- its plain functions do other rows of the same contents take fewer bytes. If all are plain, no section that recovers the
-- same is shorter.
pub record IsSlimmed (bytes : List ℕ) (table : Table) (at : ℕ) (section : List ℕ) (functions rows : ℕ) : Type 0 where
  pub needed : List Func
  pub are : Slims bytes table at (Ok needed)
  pub slim : AreNeeded table needed
  pub recovers : RecoverTheSame needed table.functions
  pub least_rows : All (λ (f : Func). IsPlain f → HasLeastRows table.arch f) needed
  pub least : All IsPlain needed → IsLeast table needed (length section)
  pub tight : Tight section at (table_of table.arch needed)
  pub narrow : Narrow section (table_of table.arch needed)
  pub are_bytes : AreBytes section
  pub len : length section ≡ section_len needed
  pub function_count : functions ≡ length needed
  pub row_count : rows ≡ row_count needed

-- the fault is the first one, or memory ran out
abbrev pub IsFirstSlimFault : (bytes : List ℕ) → Table → (at : ℕ) → SlimFault → Type 0
IsFirstSlimFault bytes table at fault = (fault ≡ NoMemory) ⊎ Slims bytes table at (Err fault)
