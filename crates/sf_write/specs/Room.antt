-- The numbers of a function have room in the widest fields, as those of its Rust types do.
use Rattle.std.specs.Prelude.{◌^◌, ◌&&◌, Bool, nat_lt}
use Rattle.std.specs.List.{list_all}
use Rattle.sf_model.specs.declared.rows.Row.{Row}
use Rattle.sf_model.specs.declared.function.Func.{Func}
use Rattle.sf_model.specs.declared.function.FuncHead.{FuncHead}
use Rattle.sf_model.specs.Width.{holds_unsigned}
use Rattle.sf_model.specs.RowBytes.{holds_row_offsets}
use Rattle.sf_model.specs.Tight.{last_start}
use Rattle.sf_decode.specs.View.{head_of}
use Rattle.sf_sizes.specs.RowLength.{offset_width}
use Rattle.sf_write.specs.Row.{start_width}
use Rattle.sf_write.specs.Entry.{repeat_size}

-- a row's offsets have room
unfoldable pub offsets_fit : Row → Bool
offsets_fit row = holds_row_offsets row.content (offset_width row.content)

-- the offsets of all rows of a function have room
unfoldable pub rows_fit : Func → Bool
rows_fit f = list_all offsets_fit f.rows

-- ---- Inside the crate
-- a function's size and its repeat size have room
unfoldable pub head_fits : FuncHead → Bool
head_fits head = nat_lt head.size (2 ^ 32) && nat_lt (repeat_size head.shape) 256

-- a function's size, its repeat size and its row starts have room
unfoldable pub entry_fits : Func → Bool
entry_fits f = head_fits (head_of f) && holds_unsigned (last_start f.rows) (start_width f.rows)
