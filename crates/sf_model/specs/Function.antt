-- GNU SFrame specification, Version 2: the functions of one section, as a writer takes them.
use Rattle.std.specs.Prelude.{◌+◌, ◌^◌, ◌<◌, ◌≤◌, Bool, true, false, not, ◌==◌, List, length, IsTrue, All, sum_by}
use Rattle.std.specs.List.{AllAdjacentBelow}
use Rattle.sf_model.specs.declared.machine.Arch.{Arch}
use Rattle.sf_model.specs.declared.machine.Arch.TheVariants.{Amd64, Aarch64}
use Rattle.sf_model.specs.declared.machine.Key.{Key}
use Rattle.sf_model.specs.declared.machine.Key.TheVariants.{A, B}
use Rattle.sf_model.specs.declared.rows.Row.{Row}
use Rattle.sf_model.specs.declared.function.Shape.{Shape}
use Rattle.sf_model.specs.declared.function.Shape.TheVariants.{Plain, Repeat}
use Rattle.sf_model.specs.declared.function.Func.{Func}
use Rattle.sf_model.specs.Content.{content_fits}
use Rattle.sf_model.specs.Limits.{most_functions, most_rows}

-- on AMD64 every key is A
abbrev pub key_fits : Arch → Key → Bool
key_fits Amd64 A = true
key_fits Amd64 B = false
key_fits Aarch64 key = true

-- the repeat size of a function of repeated blocks is not 0
abbrev pub shape_fits : Shape → Bool
shape_fits Plain = true
shape_fits (Repeat n) = not (n == 0)

-- the starts strictly rise
abbrev pub RowsRise : List Row → Type 0
RowsRise rows = AllAdjacentBelow (λ r s. r.start < s.start) rows (length rows)

-- a function that a section can hold
pub record IsWritable (arch : Arch) (f : Func) : Type 0 where
  pub size : 0 < f.size
  pub end : f.start + f.size ≤ 2 ^ 64
  pub has_rows : 0 < length f.rows
  pub rows_rise : RowsRise f.rows
  pub contents : All (λ (r : Row). IsTrue (content_fits arch r.content)) f.rows
  pub key : IsTrue (key_fits arch f.key)
  pub shape : IsTrue (shape_fits f.shape)

-- functions that one section can hold in this order: each ends at the start of the next or before it, and neither they nor
-- their rows exceed the limit
pub record AreWritable (arch : Arch) (functions : List Func) : Type 0 where
  pub each : All (IsWritable arch) functions
  pub apart : AllAdjacentBelow (λ (f : Func) (g : Func). f.start + f.size ≤ g.start) functions (length functions)
  pub count : length functions ≤ most_functions
  pub row_count : sum_by (λ (f : Func). length f.rows) functions ≤ most_rows
