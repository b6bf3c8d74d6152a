-- GNU SFrame specification, Version 3: the one layout of a section without gaps and with the least widths.
use Rattle.std.specs.Prelude.{◌≡◌, ◌+◌, ◌*◌, ℕ, List, [], ◌∷◌, length, slice_index}
use Rattle.sf_model.specs.declared.function.Func.{Func}
use Rattle.sf_model.specs.RowBytes.{StandsAt}
use Rattle.sf_model.specs.Section.{auxiliary_len, rows_len, functions_offset, rows_offset, functions_place, row_bytes_of}
use Rattle.sf_model.specs.Tight.{IsZeroIfPlain}
use Rattle.sf_write.specs.Row.{rows_bytes, start_width}
use Rattle.sf3_model.specs.Described.{Described, Table}
use Rattle.sf3_model.specs.Section.{Section, data_offset_at, start_width_in}
use Rattle.sf3_write.specs.Entry.{data_len}

-- The data of the function whose entry is at a place begin at this offset of the sub-section of rows. The row starts have the least width
-- that holds the last one, the offsets of each row the least width that holds them, and the repeat size of a plain function is 0.
pub record DataStand (bytes : List ℕ) (place offset : ℕ) (f : Func) : Type 0 where
  pub offset_is : data_offset_at bytes place ≡ offset
  pub start_width : start_width_in (row_bytes_of bytes) offset ≡ start_width f.rows
  pub repeat_size : IsZeroIfPlain f.shape (slice_index (row_bytes_of bytes) (offset + 4))
  pub rows : StandsAt (row_bytes_of bytes) (offset + 5) (rows_bytes f.rows)

-- Each function's data begin where those of the previous function end, the first at this offset, and the last end with the
-- sub-section of rows.
abbrev pub WithoutGaps : List ℕ → (place offset : ℕ) → List Described → Type 0
WithoutGaps bytes place offset [] = offset ≡ rows_len bytes
WithoutGaps bytes place offset (d ∷ later) = DataStand bytes place offset d.func × WithoutGaps bytes (place + 16) (offset + data_len d.func) later

-- A section whose functions are sorted and whose starts count from their own fields, without an auxiliary header: the header,
-- the entries and the functions' data are consecutive, and there is nothing else.
pub record Tight (bytes : List ℕ) (at : ℕ) (table : Table) : Type 0 where
  pub section : Section bytes at table
  pub flags : table.flags ≡ 5
  pub no_auxiliary_header : auxiliary_len bytes ≡ 0
  pub functions_first : functions_offset bytes ≡ 0
  pub rows_next : rows_offset bytes ≡ 16 * length table.functions
  pub without_gaps : WithoutGaps bytes (functions_place bytes) 0 table.functions
  pub nothing_besides : length bytes ≡ 28 + 16 * length table.functions + rows_len bytes
