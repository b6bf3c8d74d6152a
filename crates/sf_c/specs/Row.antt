-- GNU SFrame specification, Version 2, function descriptor entries and frame row entries: a row that was found, as C has it.
use Rattle.std.specs.Prelude.{ℕ, pos, zero, Bool, true, false, Option, Some, None, is_some, unwrap_or}
use Rattle.std.specs.Bool.{then_some}
use Rattle.sf_model.specs.declared.machine.Key.{Key}
use Rattle.sf_model.specs.declared.machine.Key.TheVariants.{A, B}
use Rattle.sf_model.specs.declared.function.Shape.{Shape}
use Rattle.sf_model.specs.declared.function.Shape.TheVariants.{Plain, Repeat}
use Rattle.sf_model.specs.RowBytes.{base_number}
use Rattle.sf_lookup.specs.declared.lookup.Found.{Found}
use Rattle.sample_walk.specs.Step.{saved_return}
use Rattle.sf_c.specs.declared.finding.KiblawenRow.{KiblawenRow}

-- the header's number of a test
abbrev pub flag : Bool → ℕ
flag false = 0
flag true = 1

-- the header's number of the key of a signed return address, 0 if it is unsigned
abbrev pub key_code : Option Key → ℕ
key_code None = 0
key_code (Some A) = 1
key_code (Some B) = 2

-- the number of bytes after which a function's rows repeat, 0 if they don't
abbrev pub block_size : Shape → ℕ
block_size Plain = 0
block_size (Repeat size) = size

-- a function and its row, as C has them
abbrev pub row_shown : Found → KiblawenRow
row_shown found = let content = found.row.content in record {
  function_start = found.func.start;
  function_size = found.func.size;
  block_size = block_size found.func.shape;
  row_start = found.row.start;
  base = base_number content.base;
  cfa_offset = content.cfa;
  ra_saved = flag (is_some (saved_return content.ra));
  ra_offset = unwrap_or (saved_return content.ra) (pos zero);
  fp_saved = flag (is_some content.fp);
  fp_offset = unwrap_or content.fp (pos zero);
  key = key_code (then_some content.signed found.func.key);
}

-- the row that was found, or else what `row` was before
abbrev pub row_or : (before : KiblawenRow) → Option Found → KiblawenRow
row_or before (Some found) = row_shown found
row_or before None = before
