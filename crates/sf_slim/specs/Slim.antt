-- GNU SFrame specification, Version 2, function descriptor entries and frame row entries: the functions and rows of a
-- section that are needed to recover at each address what the section recovers.
use Rattle.std.specs.Prelude.{◌<◌, ℕ, zero, suc, Bool, true, false, not, is_some, List, length, map, Option, Some, None}
use Rattle.std.specs.Option.{option_map}
use Rattle.std.specs.List.{AllAdjacentBelow, AllPairs, filter, filter_map, list_any, range_with_len}
use Rattle.std.specs.List.Sorted.{IsPermutation}
use Rattle.sf_model.specs.declared.content.Content.{Content}
use Rattle.sf_model.specs.declared.function.Func.{Func}
use Rattle.sf_model.specs.declared.function.Shape.{Shape}
use Rattle.sf_model.specs.declared.function.Shape.TheVariants.{Plain, Repeat}
use Rattle.sf_model.specs.declared.rows.Row.{Row}
use Rattle.sf_model.specs.Lookup.{offset_in_block, row_at}
use Rattle.sf_model.specs.Table.{Table}
use Rattle.sf_model.specs.Union.{IsApart}
use Rattle.sf_express.specs.Expressed.{same_content}

-- the content at each offset, or none
abbrev pub ContentByOffset : Type 0
ContentByOffset = (offset : ℕ) → Option Content

-- the content that rows have at an offset
abbrev pub content_at : List Row → ContentByOffset
content_at rows offset = option_map (λ (r : Row). r.content) (row_at offset rows)

-- ---- the rows that are needed
-- there is a content at both offsets, and it is the same
abbrev pub have_same_content : Option Content → Option Content → Bool
have_same_content (Some content) (Some other) = same_content content other
have_same_content (Some content) None = false
have_same_content None other = false

-- a content begins at 0, and where it isn't that of the offset before
abbrev pub content_begins : ContentByOffset → (offset : ℕ) → Bool
content_begins contents zero = true
content_begins contents (suc offset) = not (have_same_content (contents offset) (contents (suc offset)))

-- the row that begins at an offset, if there is a content
abbrev pub row_with : (offset : ℕ) → Option Content → Option Row
row_with offset content = option_map (λ (c : Content). record { start = offset; content = c }) content

-- the rows that begin at one of these offsets
abbrev pub rows_beginning : ContentByOffset → List ℕ → List Row
rows_beginning contents offsets = filter_map (λ (offset : ℕ). row_with offset (contents offset)) (filter (content_begins contents) offsets)

-- The rows that are needed of a function whose rows are looked up by the offset. There is one at each offset below the size at
-- which there is a content that isn't that of the offset before.
unfoldable pub slim_rows : (size : ℕ) → List Row → List Row
slim_rows size rows = rows_beginning (content_at rows) (range_with_len 0 size)

-- the rows of a function that are needed; a function of repeated blocks keeps all
abbrev pub slim_rows_of : Shape → (size : ℕ) → List Row → List Row
slim_rows_of Plain size rows = slim_rows size rows
slim_rows_of (Repeat block) size rows = rows

-- the function with the rows that are needed
abbrev pub slim_function : Func → Func
slim_function f = record { start = f.start; size = f.size; shape = f.shape; key = f.key; rows = slim_rows_of f.shape f.size f.rows }

-- ---- the functions that are needed
-- the function has a row at an offset
abbrev pub has_row_at : Func → (offset : ℕ) → Bool
has_row_at f offset = is_some (row_at (offset_in_block f.shape offset) f.rows)

-- the function has a row at some offset below its size
unfoldable pub is_live : Func → Bool
is_live f = list_any (has_row_at f) (range_with_len 0 f.size)

-- These are the functions of the table that have a row at some address, by rising start, each with the rows that are needed. No
-- two functions of the table share an address.
pub record AreNeeded (table : Table) (functions : List Func) : Type 0 where
  pub apart : AllPairs IsApart table.functions
  pub taken : IsPermutation (map slim_function (filter is_live table.functions)) functions
  pub rising : AllAdjacentBelow (λ (f : Func) (g : Func). f.start < g.start) functions (length functions)
