-- GNU SFrame specification, Version 3, struct sframe_func_desc_attr_v3: the bytes of a function's attributes, and the rows after them.
use Rattle.std.specs.Prelude.{◌++◌, ℕ, List, [], ◌∷◌}
use Rattle.byteorder.specs.Endian.{little_bytes}
use Rattle.sf_model.specs.declared.function.Func.{Func}
use Rattle.sf_model.specs.declared.function.FuncHead.{FuncHead}
use Rattle.sf_decode.specs.View.{head_of}
use Rattle.sf_write.specs.Entry.{entry_info, repeat_size}
use Rattle.sf_write.specs.Row.{rows_bytes, start_width}

-- the number of rows in two bytes, the info byte of Version 2 without signal_p, the default type, and the repeat size
unfoldable pub attributes_bytes : (start_width : ℕ) → FuncHead → List ℕ
attributes_bytes start_width head = little_bytes 2 head.rows ++ (entry_info start_width head ∷ 0 ∷ repeat_size head.shape ∷ [])

-- the function's attributes and rows
unfoldable pub data_bytes : Func → List ℕ
data_bytes f = attributes_bytes (start_width f.rows) (head_of f) ++ rows_bytes f.rows
