-- GNU SFrame specification, Version 2, frame row entries: the rows of one function as bytes, before the last of them is known. Each start
-- has one width, which need not be the least; the offsets have the least.
use Rattle.std.specs.Prelude.{◌≡◌, ℕ, IsTrue, List, length, All}
use Rattle.std.specs.List.{flat_map, list_all}
use Rattle.sf_model.specs.declared.machine.Arch.{Arch}
use Rattle.sf_model.specs.declared.rows.Row.{Row}
use Rattle.sf_model.specs.declared.function.Func.{Func}
use Rattle.sf_model.specs.declared.function.FuncHead.{FuncHead}
use Rattle.sf_model.specs.Content.{content_fits}
use Rattle.sf_model.specs.Function.{RowsRise}
use Rattle.sf_model.specs.Tight.{last_start}
use Rattle.sf_model.specs.Width.{holds_unsigned, IsWidth}
use Rattle.sf_decode.specs.Row.{rows_in}
use Rattle.sf_decode.specs.View.{head_of}
use Rattle.sf_write.specs.declared.packed.PackedRows.{PackedRows}
use Rattle.sf_write.specs.Room.{offsets_fit}
use Rattle.sf_write.specs.Row.{narrow_row}

-- the bytes are these rows, and the width has room for the last start
pub record ArePacked (packed : PackedRows) (rows : List Row) : Type 0 where
  pub bytes : packed.bytes.items ≡ flat_map (narrow_row packed.width) rows
  pub count : packed.count ≡ length rows
  pub last : packed.last ≡ last_start rows
  pub width : IsWidth (holds_unsigned (last_start rows)) packed.width
  pub offsets_fit : IsTrue (list_all offsets_fit rows)

-- the width has room for this start
abbrev pub HasRoom : PackedRows → (start : ℕ) → Type 0
HasRoom packed start = IsWidth (holds_unsigned start) packed.width

-- the function with this head whose rows are in the bytes
abbrev pub unpacked : Arch → FuncHead → PackedRows → Func
unpacked arch head packed = record {
  start = head.start;
  size = head.size;
  shape = head.shape;
  key = head.key;
  rows = rows_in arch packed.bytes.items packed.width 0 head.rows;
}

-- this is the head of the function, whose rows are in the bytes: rows of the machine by rising start
pub record IsPacked (arch : Arch) (head : FuncHead) (packed : PackedRows) (func : Func) : Type 0 where
  pub head_is : head ≡ head_of func
  pub rows : ArePacked packed func.rows
  pub rise : RowsRise func.rows
  pub contents : All (λ (row : Row). IsTrue (content_fits arch row.content)) func.rows

-- there is such a function
abbrev pub CanBeUnpacked : Arch → FuncHead → PackedRows → Type 0
CanBeUnpacked arch head packed = (func : Func) × IsPacked arch head packed func
