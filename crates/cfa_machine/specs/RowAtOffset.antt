-- The row of a function at an offset (DWARF 5, section 6.4.3): the instructions of the common information entry and
-- then those of its own before the first advance to an offset above are run afresh, with all registers. Offsets are
-- plain integers.
use Rattle.std.specs.Prelude.{◌≡◌, ◌<◌, ℕ, ℤ, ◌+◌, ◌*◌, ◌==◌, ◌||◌, Bool, false, nat_lt, nat_le, List, [], ◌∷◌, Option, Some, None, Ok, Err, if◌then◌else◌}
use Rattle.sf_model.specs.declared.machine.Arch.{Arch}
use Rattle.cfa_insn.specs.Listing.{Item}
use Rattle.cfa_machine.specs.declared.effect.Effect.{Effect}
use Rattle.cfa_machine.specs.declared.effect.Effect.TheVariants.{Row, Advance, Restore, Remember, Recall}
use Rattle.cfa_machine.specs.declared.row.DwRow.{DwRow}
use Rattle.cfa_machine.specs.Columns.{row_from}
use Rattle.cfa_machine.specs.Effects.{effect_by}
use Rattle.cfa_machine.specs.FullRow.{FullRow, no_row, restored_rule, with_register_rule, row_after, columns_of}

-- the present row, and the remembered ones, the latest first
pub record UnwindState : Type 0 where
  pub row : FullRow
  pub remembered : List FullRow

-- the latest of the remembered rows is the present one again
abbrev pub recalled : List FullRow → UnwindState → UnwindState
recalled [] s = s
recalled (row ∷ rows) s = record { row = row; remembered = rows }

-- the state after one instruction; its offset is apart
abbrev pub after_instruction : (initial : FullRow) → Effect → UnwindState → UnwindState
after_instruction initial (Row change) s = record { row = row_after change s.row; remembered = s.remembered }
after_instruction initial (Advance n) s = s
after_instruction initial (Restore r) s = record { row = with_register_rule r (restored_rule r initial.rules) s.row; remembered = s.remembered }
after_instruction initial Remember s = record { row = s.row; remembered = s.row ∷ s.remembered }
after_instruction initial Recall s = recalled s.remembered s

-- the offset after an instruction
abbrev pub offset_behind : (code : ℕ) → Effect → ℕ → ℕ
offset_behind code (Advance n) offset = offset + code * n
offset_behind code (Row change) offset = offset
offset_behind code (Restore r) offset = offset
offset_behind code Remember offset = offset
offset_behind code Recall offset = offset

-- the state after the instructions from an offset on, before the first advance to an offset above o
unfoldable pub state_before : (initial : FullRow) (code : ℕ) (f : ℤ) (o offset : ℕ) → UnwindState → List Item → UnwindState
state_before initial code f o offset s [] = s
state_before initial code f o offset s (Err e ∷ items) = s
state_before initial code f o offset s (Ok (place, i) ∷ items) =
    if nat_lt o (offset_behind code (effect_by f i) offset) then s
    else state_before initial code f o (offset_behind code (effect_by f i) offset) (after_instruction initial (effect_by f i) s) items

-- the initial row after one instruction
abbrev pub row_defined : Effect → FullRow → FullRow
row_defined (Row change) row = row_after change row
row_defined (Advance n) row = row
row_defined (Restore r) row = row
row_defined Remember row = row
row_defined Recall row = row

-- the initial row after all instructions
unfoldable pub initial_by : ℤ → FullRow → List Item → FullRow
initial_by f row [] = row
initial_by f row (Err e ∷ items) = row
initial_by f row (Ok (place, i) ∷ items) = initial_by f (row_defined (effect_by f i) row) items

-- the row at an offset
abbrev pub row_at_offset : (code : ℕ) (f : ℤ) (cie fde : List Item) (o : ℕ) → FullRow
row_at_offset code f cie fde o =
    let initial = initial_by f no_row cie in
    (state_before initial code f o 0 (record { row = initial; remembered = [] }) fde).row

-- ---- rows that were given
-- the row with the greatest start not above o, among rows by rising start
abbrev pub latest_at : ℕ → Option DwRow → List DwRow → Option DwRow
latest_at o found [] = found
latest_at o found (r ∷ rows) = latest_at o (if nat_le r.start o then Some r else found) rows

-- the row that was found has the columns of a full row
pub record HasColumns (arch : Arch) (row : FullRow) (found : Option DwRow) : Type 0 where
  pub start : ℕ
  pub is : found ≡ Some (row_from start (columns_of arch row))

-- at each offset below the size the rows are what the instructions give there
abbrev pub MatchInstructions : Arch → (code : ℕ) (f : ℤ) (size : ℕ) (cie fde : List Item) → List DwRow → Type 0
MatchInstructions arch code f size cie fde rows = (o : ℕ) → o < size → HasColumns arch (row_at_offset code f cie fde o) (latest_at o None rows)

-- ---- where rows start
-- whether the offset is o before some instruction or at the end: 0 is, and each that an advance arrives at
unfoldable pub reaches : (code : ℕ) (f : ℤ) (o offset : ℕ) → List Item → Bool
reaches code f o offset [] = offset == o
reaches code f o offset (Err e ∷ items) = offset == o
reaches code f o offset (Ok (place, i) ∷ items) = (offset == o) || reaches code f o (offset_behind code (effect_by f i) offset) items

-- whether a row starts at o
abbrev pub has_start : ℕ → List DwRow → Bool
has_start o [] = false
has_start o (r ∷ rows) = (r.start == o) || has_start o rows

-- the starts are the offsets below the size that are reached
abbrev pub StartWhereReached : (code : ℕ) (f : ℤ) (size : ℕ) (fde : List Item) → List DwRow → Type 0
StartWhereReached code f size fde rows = (o : ℕ) → o < size → has_start o rows ≡ reaches code f o 0 fde
