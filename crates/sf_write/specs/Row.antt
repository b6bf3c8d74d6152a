-- GNU SFrame specification, Version 2, frame row entries: the bytes of a function's rows, with the least widths.
use Rattle.std.specs.Prelude.{ℕ, List, sum_by}
use Rattle.std.specs.List.{flat_map}
use Rattle.sf_model.specs.declared.rows.Row.{Row}
use Rattle.sf_model.specs.Width.{holds_unsigned}
use Rattle.sf_model.specs.RowBytes.{spelled_row, StandsAt}
use Rattle.sf_model.specs.Tight.{last_start}
use Rattle.sf_sizes.specs.Width.{least_width}
use Rattle.sf_sizes.specs.RowLength.{offset_width, row_len}

-- a row, with the least width of its offsets
abbrev pub narrow_row : (start_width : ℕ) → Row → List ℕ
narrow_row start_width row = spelled_row start_width (offset_width row.content) row

-- the least width of a function's row starts
abbrev pub start_width : List Row → ℕ
start_width rows = least_width (holds_unsigned (last_start rows))

-- a function's rows, consecutive
unfoldable pub rows_bytes : List Row → List ℕ
rows_bytes rows = flat_map (narrow_row (start_width rows)) rows

-- how many bytes a function's rows are
unfoldable pub rows_len : List Row → ℕ
rows_len rows = sum_by (λ (row : Row). row_len (start_width rows) row.content) rows

-- the bytes begin with `front`: what was there stays in front
unfoldable pub BeginWith : (bytes front : List ℕ) → Type 0
BeginWith bytes front = StandsAt bytes 0 front
