-- How many steps a look-up takes in a section that was put in order.
use Rattle.std.specs.Prelude.{◌+◌, ◌*◌, ◌^◌, ◌≤◌, ℕ, nat_le, List, [], ◌∷◌, length, if◌then◌else◌}
use Rattle.sf_model.specs.declared.rows.Row.{Row}
use Rattle.sf_model.specs.declared.function.Func.{Func}
use Rattle.sf_model.specs.Table.{row_count}

-- k is at most the number of binary digits of n
abbrev pub IsWithinDigits : (k n : ℕ) → Type 0
IsWithinDigits k n = 2 ^ k ≤ 2 * n + 1

-- Inside the crate: the number of rows up to and including the first that starts above the offset
abbrev pub rows_read : (offset : ℕ) → List Row → ℕ
rows_read offset [] = 0
rows_read offset (r ∷ rows) = if nat_le r.start offset then 1 + rows_read offset rows else 1

-- steps: at most as many as the number of functions' starts and ends has binary digits, then as many as the number of rows has, and 64
pub record AreFew (functions : List Func) (steps : ℕ) : Type 0 where
  pub of_ends : ℕ
  pub of_rows : ℕ
  pub among_ends : IsWithinDigits of_ends (2 * length functions)
  pub among_rows : IsWithinDigits of_rows (row_count functions)
  pub total : steps ≤ of_ends + of_rows + 64
