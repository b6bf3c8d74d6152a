-- GNU SFrame specification, Version 2, frame row entries: how many bytes a row has.
use Rattle.std.specs.Prelude.{◌+◌, ◌*◌, ℕ, length}
use Rattle.sf_model.specs.declared.content.Content.{Content}
use Rattle.sf_model.specs.declared.rows.Row.{Row}
use Rattle.sf_model.specs.Width.{width_len}
use Rattle.sf_model.specs.RowBytes.{row_offsets, holds_row_offsets}
use Rattle.sf_sizes.specs.Width.{least_width}

-- the least width of a row's offsets
abbrev pub offset_width : Content → ℕ
offset_width content = least_width (holds_row_offsets content)

-- the length of the row's start, its info byte and its offsets
abbrev pub row_len : (start_width : ℕ) → Content → ℕ
row_len start_width content =
    width_len start_width + 1 + length (row_offsets content) * width_len (offset_width content)

-- a row by its parts
abbrev pub row_at : (start : ℕ) → Content → Row
row_at start content = record { start = start; content = content }
