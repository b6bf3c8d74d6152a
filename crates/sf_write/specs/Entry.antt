-- GNU SFrame specification, Version 2, function descriptor entries: their bytes.
use Rattle.std.specs.Prelude.{◌+◌, ◌*◌, ◌++◌, ℕ, List, [], ◌∷◌}
use Rattle.sf_model.specs.declared.function.Shape.{Shape}
use Rattle.sf_model.specs.declared.function.Shape.TheVariants.{Plain, Repeat}
use Rattle.sf_model.specs.declared.function.Func.{Func}
use Rattle.sf_model.specs.declared.function.FuncHead.{FuncHead}
use Rattle.sf_model.specs.Section.{shape_number, key_number}
use Rattle.sf_decode.specs.View.{head_of}
use Rattle.sf_write.specs.Number.{word_bytes, signed_word_bytes}
use Rattle.sf_write.specs.Row.{start_width, rows_len}
use Rattle.sf_write.specs.Reach.{start_distance}

-- the repeat size, 0 for a plain function
abbrev pub repeat_size : Shape → ℕ
repeat_size Plain = 0
repeat_size (Repeat size) = size

-- the info byte: bits 0 to 3 the width of the row starts, bit 4 the shape, bit 5 the key
unfoldable pub entry_info : (start_width : ℕ) → FuncHead → ℕ
entry_info start_width head = start_width + 16 * shape_number head.shape + 32 * key_number head.key

-- an entry: start, size, the place of its first row among all rows, the number of its rows, info, repeat size and two zero bytes
unfoldable pub entry_bytes : (at number place start_width : ℕ) → FuncHead → List ℕ
entry_bytes at number place start_width head =
    signed_word_bytes (start_distance at number head.start) ++ word_bytes head.size ++ word_bytes place
    ++ word_bytes head.rows ++ (entry_info start_width head ∷ repeat_size head.shape ∷ 0 ∷ 0 ∷ [])

-- the entries of consecutively numbered functions from `number` on, with consecutive rows from the place on
abbrev pub entries_bytes : (at number place : ℕ) → List Func → List ℕ
entries_bytes at number place [] = []
entries_bytes at number place (f ∷ functions) =
    entry_bytes at number place (start_width f.rows) (head_of f) ++ entries_bytes at (number + 1) (place + rows_len f.rows) functions
