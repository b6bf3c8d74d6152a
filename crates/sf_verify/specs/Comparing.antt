-- Inside the crate: what is found by comparing a section with call frame information over some addresses, by rising address.
use Rattle.std.specs.Prelude.{◌≡◌, ◌<◌, ◌≤◌, ◌+◌, ◌^◌, ℕ, min, IsTrue, List, length, get_or, slice_get, Option, Some, None}
use Rattle.std.specs.List.{All}
use Rattle.std.specs.Option.{option_and_then}
use Rattle.sf_model.specs.declared.function.Func.{Func}
use Rattle.sf_model.specs.declared.function.FuncHead.{FuncHead}
use Rattle.sf_model.specs.declared.machine.Arch.{Arch}
use Rattle.sf_model.specs.declared.rows.Row.{Row}
use Rattle.sf_model.specs.Content.{content_fits}
use Rattle.sf_model.specs.Function.{RowsRise}
use Rattle.sf_model.specs.Lookup.{row_in}
use Rattle.sf_decode.specs.declared.iter.RowIter.{RowIter}
use Rattle.sf_decode.specs.View.{rows_left}
use Rattle.sf_merge.specs.declared.located.Located.{Located}
use Rattle.sf_verify.specs.declared.sweep.Difference.{Difference}
use Rattle.sf_verify.specs.Agreement.{Agree, DifferFirst, without_key}
use Rattle.frame_functions.specs.ContentAt.{Answers}
use Rattle.sf_verify.specs.SectionContent.{by_row}

-- the least address from one on and below an end at which section and call frame information differ, and their contents there
pub record DifferWithin (section dwarf : Answers) (from end : ℕ) (d : Difference) : Type 0 where
  pub from_here : from ≤ d.pc
  pub below : d.pc < end
  pub section_content : without_key (section d.pc) ≡ Some d.section
  pub dwarf_content : without_key (dwarf d.pc) ≡ d.dwarf
  pub differ : Agree (section d.pc) (dwarf d.pc) → ⊥
  pub before : (pc : ℕ) → from ≤ pc → pc < d.pc → Agree (section pc) (dwarf pc)

-- section and call frame information agree there, or this is their first difference
abbrev pub Compares : (section dwarf : Answers) → (from end : ℕ) → Option Difference → Type 0
Compares section dwarf from end None = (pc : ℕ) → from ≤ pc → pc < end → Agree (section pc) (dwarf pc)
Compares section dwarf from end (Some d) = DifferWithin section dwarf from end d

-- the content of a section's function at each of its addresses
abbrev pub function_content : Func → Answers
function_content f pc = option_and_then by_row (row_in pc f)

-- section and call frame information agree at every address, or this is their first difference
abbrev pub ComparesAll : (section dwarf : Answers) → Option Difference → Type 0
ComparesAll section dwarf None = (pc : ℕ) → Agree (section pc) (dwarf pc)
ComparesAll section dwarf (Some d) = DifferFirst section dwarf d.pc d.section d.dwarf

-- ---- functions of a section
-- the offset at which a row begins, or the size if there is no row or it begins after that
abbrev pub edge_of : Option Row → (size : ℕ) → ℕ
edge_of (Some r) size = min r.start size
edge_of None size = size

-- the offset at which the row at a place begins, or the function's size
abbrev pub edge : List Row → (place size : ℕ) → ℕ
edge rows place size = edge_of (slice_get rows place) size

-- the function of a head and of the rows that an iterator has left
abbrev pub func_read : FuncHead → RowIter → Func
func_read head rows = record { start = head.start; size = head.size; shape = head.shape; key = head.key; rows = rows_left rows }

-- the function ends at 2^64 or below, its rows rise, and their contents fit the machine
pub record IsComparable (arch : Arch) (f : Func) : Type 0 where
  pub end : f.start + f.size ≤ 2 ^ 64
  pub rise : RowsRise f.rows
  pub fits : All (λ (r : Row). IsTrue (content_fits arch r.content)) f.rows

-- each function can be compared, and ends where a later one starts, or below
pub record AreComparable (arch : Arch) (functions : List Located) : Type 0 where
  pub each : All (λ (l : Located). IsComparable arch l.func) functions
  pub apart : (i j : ℕ) (d : Located) → i < j → j < length functions → (get_or functions i d).func.start + (get_or functions i d).func.size ≤ (get_or functions j d).func.start
