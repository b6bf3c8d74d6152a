-- GNU SFrame specification, Version 2: the one layout of a section without gaps, and with the least widths.
use Rattle.std.specs.Prelude.{◌≡◌, ◌+◌, ◌*◌, ℕ, List, [], ◌∷◌, length, slice_index, ⊤}
use Rattle.sf_model.specs.declared.machine.Arch.{Arch}
use Rattle.sf_model.specs.declared.content.Content.{Content}
use Rattle.sf_model.specs.declared.rows.Row.{Row}
use Rattle.sf_model.specs.declared.function.Shape.{Shape}
use Rattle.sf_model.specs.declared.function.Shape.TheVariants.{Plain, Repeat}
use Rattle.sf_model.specs.declared.function.Func.{Func}
use Rattle.sf_model.specs.Width.{holds_unsigned, NoneLess}
use Rattle.sf_model.specs.RowBytes.{holds_row_offsets}
use Rattle.sf_model.specs.Table.{Table}
use Rattle.sf_model.specs.Section.{Section, number_in, auxiliary_len, rows_len, functions_offset, rows_offset, functions_place, row_bytes_of, start_width_at, row_offset_at, AnyWidth, RowsStand}

-- the repeat size of a plain function is 0
abbrev pub IsZeroIfPlain : Shape → (byte : ℕ) → Type 0
IsZeroIfPlain Plain byte = byte ≡ 0
IsZeroIfPlain (Repeat size) byte = ⊤

-- Each function's rows begin where those of the previous function end, the first at this offset, and the last end with the
-- sub-section of rows. Padding and the repeat size of a plain function are 0.
abbrev pub WithoutGaps : Arch → List ℕ → (place offset : ℕ) → List Func → Type 0
WithoutGaps arch bytes place offset [] = offset ≡ rows_len bytes
WithoutGaps arch bytes place offset (f ∷ later) =
    (row_offset_at bytes place ≡ offset) × (number_in 2 (place + 18) bytes ≡ 0) × IsZeroIfPlain f.shape (slice_index bytes (place + 17))
    × ((end : ℕ) × RowsStand AnyWidth arch (row_bytes_of bytes) (start_width_at bytes place) offset end f.rows
    × WithoutGaps arch bytes (place + 20) end later)

-- A section whose functions are sorted and whose starts count from their own fields, without an auxiliary header: the header,
-- the entries and the rows are consecutive, and there is nothing else.
pub record Tight (bytes : List ℕ) (at : ℕ) (table : Table) : Type 0 where
  pub section : Section bytes at table
  pub flags : table.flags ≡ 5
  pub no_auxiliary_header : auxiliary_len bytes ≡ 0
  pub functions_first : functions_offset bytes ≡ 0
  pub rows_next : rows_offset bytes ≡ 20 * length table.functions
  pub without_gaps : WithoutGaps table.arch bytes (functions_place bytes) 0 table.functions
  pub nothing_besides : length bytes ≡ 28 + 20 * length table.functions + rows_len bytes

-- the start of the last row, or 0 without rows
abbrev pub last_start : List Row → ℕ
last_start [] = 0
last_start (row ∷ []) = row.start
last_start (row ∷ next ∷ rows) = last_start (next ∷ rows)

-- the least width that holds a row's offsets
abbrev pub LeastWidth : Content → (offset_width : ℕ) → Type 0
LeastWidth content offset_width = NoneLess (holds_row_offsets content) offset_width

-- each function has the least width that holds its last row's start, and each row the least that holds its offsets
abbrev pub LeastWidths : Arch → List ℕ → (place : ℕ) → List Func → Type 0
LeastWidths arch bytes place [] = ⊤
LeastWidths arch bytes place (f ∷ later) =
    NoneLess (holds_unsigned (last_start f.rows)) (start_width_at bytes place)
    × ((end : ℕ) × RowsStand LeastWidth arch (row_bytes_of bytes) (start_width_at bytes place) (row_offset_at bytes place) end f.rows)
    × LeastWidths arch bytes (place + 20) later

-- the widths of a section of this table are the least
abbrev pub Narrow : List ℕ → Table → Type 0
Narrow bytes table = LeastWidths table.arch bytes (functions_place bytes) table.functions
