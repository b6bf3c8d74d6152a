-- The initial rows of a section's common information entries, kept by the places of the entries (LSB Core, "The .eh_frame section";
-- DWARF 5, section 6.4.1).
use Rattle.std.specs.Prelude.{◌≡◌, ℕ, ℤ, List, Option, Some, None}
use Rattle.std.specs.BTreeMap.{get}
use Rattle.std.specs.Option.{ForSome, option_map}
use Rattle.std.specs.Ordering.{nat_cmp}
use Rattle.sf_bytes.specs.Cursor.{Cursor, cursor}
use Rattle.sf_model.specs.declared.machine.Arch.{Arch}
use Rattle.cfa_insn.specs.Listing.{listing}
use Rattle.cfa_machine.specs.declared.columns.Columns.{Columns}
use Rattle.cfa_machine.specs.Initial.{IsInitial}
use Rattle.eh_records.specs.Cie.{CieView}
use Rattle.eh_records.specs.Named.{standing_cie}
use Rattle.frame_functions.specs.declared.initial_rows.InitialInstructions.{InitialInstructions}
use Rattle.frame_functions.specs.declared.initial_rows.InitialRows.{InitialRows}

-- a row is the one that the instructions of a common information entry give, if there is an entry
abbrev pub IsInitialOf : Arch → Option CieView → Columns → Type 0
IsInitialOf arch None row = Unit {0}
IsInitialOf arch (Some cie) row = IsInitial arch cie.data_alignment_factor (listing cie.insns) row

-- it is that of the entry at a place of a section
abbrev pub IsInitialAt : Arch → (section : List ℕ) → (place : ℕ) → Columns → Type 0
IsInitialAt arch section place row = IsInitialOf arch (standing_cie arch section place) row

-- what an initial row comes from: the data alignment factor and the instructions of the entry
abbrev pub row_origin : CieView → ℤ × Cursor
row_origin cie = (cie.data_alignment_factor, cie.insns)

-- the entry at this place has these instructions and this factor
abbrev pub HasInstructions : Arch → (section : List ℕ) → InitialInstructions → Type 0
HasInstructions arch section i = option_map row_origin (standing_cie arch section i.place) ≡ Some (i.factor, cursor i.insns)

-- each row that is kept is that of the entry at its place
pub record AreInitial (arch : Arch) (section : List ℕ) (initials : InitialRows) : Type 0 where
  pub last : ForSome initials.last (λ (place : ℕ). IsInitialAt arch section place initials.row)
  pub long : (place : ℕ) → ForSome (get nat_cmp initials.long place) (λ (row : Columns). IsInitialAt arch section place row)
