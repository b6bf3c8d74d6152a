-- Rows of functions from which a look-up reads on.
use Rattle.std.specs.Prelude.{◌≡◌, ◌+◌, ◌-◌, ◌*◌, ◌/◌, ◌%◌, ◌^◌, ◌<◌, ◌≤◌, ◌==◌, ◌&&◌, ℕ, Bool, IsTrue, List, All, drop, length, nat_lt, slice_index_or, take, if◌then◌else◌}
use Rattle.std.specs.List.{AllPairs, list_any}
use Rattle.sf_model.specs.declared.rows.Row.{Row}
use Rattle.sf_model.specs.Table.{row_count}
use Rattle.sf_decode.specs.declared.view.View.{View}
use Rattle.sf_decode.specs.View.{function_of, rows_left, table_of}
use Rattle.sf_lookup.specs.declared.marks.Mark.{Mark}

-- Inside the crate: a mark: a row of a function of the section whose number is a positive multiple of 64, and those after it
pub record IsMark (view : View) (m : Mark) : Type 0 where
  pub within : m.function < length (table_of view).functions
  pub numbered : m.number < length (function_of view m.function).rows
  pub positive : 0 < m.number
  pub multiple : m.number % 64 ≡ 0
  pub start : (d : Row) → (slice_index_or (function_of view m.function).rows m.number d).start ≡ m.start
  pub start_below : m.start < 2 ^ 32
  pub rows : rows_left m.rows ≡ drop m.number (function_of view m.function).rows

-- Inside the crate: row k of function f comes before row n of function g
abbrev pub IsEarlier : (f k g n : ℕ) → Type 0
IsEarlier f k g n = (f ≤ g) × (f ≡ g → k < n)

-- Inside the crate: the mark is that of row k of function f
abbrev pub is_at : (f k : ℕ) → Mark → Bool
is_at f k m = m.function == f && m.number == k

-- Inside the crate: all marks of the rows before row n of function g, in order
pub record AreMarksUpto (view : View) (g n : ℕ) (marks : List Mark) : Type 0 where
  pub each : All (IsMark view) marks
  pub upto : All (λ (m : Mark). IsEarlier m.function m.number g n) marks
  pub in_order : AllPairs (λ (a : Mark) (b : Mark). IsEarlier a.function a.number b.function b.number) marks
  pub all : (f k : ℕ) → f < length (table_of view).functions → k < length (function_of view f).rows → IsEarlier f k g n → 0 < k → k % 64 ≡ 0
      → IsTrue (list_any (is_at f k) marks)
  -- there are at least 64 rows for each mark
  pub count : 64 * length marks ≤ row_count (take g (table_of view).functions) + (n - 1) / 64 * 64

-- Inside the crate: all marks of the section, in order
abbrev pub AreMarks : View → List Mark → Type 0
AreMarks view marks = AreMarksUpto view (length (table_of view).functions) 0 marks

-- where a mark's row starts, as the rows of one function see it: before all rows for an earlier function, after them
-- for a later one
abbrev pub start_seen : (function : ℕ) → Mark → ℕ
start_seen function m = if nat_lt m.function function then 0 else if nat_lt function m.function then 2 ^ 64 - 1 else m.start
