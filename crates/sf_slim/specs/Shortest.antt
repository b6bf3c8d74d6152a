-- GNU SFrame specification, Version 2, frame row entries: the bytes of rows, and which lists of rows have the same
-- contents.
use Rattle.std.specs.Prelude.{◌≡◌, ◌<◌, ◌≤◌, ℕ, List, length, map, IsTrue, All, sum_by}
use Rattle.sf_model.specs.declared.machine.Arch.{Arch}
use Rattle.sf_model.specs.declared.function.Func.{Func}
use Rattle.sf_model.specs.declared.function.Shape.TheVariants.{Plain}
use Rattle.sf_model.specs.declared.recovery.Regs.{Regs}
use Rattle.sf_model.specs.declared.rows.Row.{Row}
use Rattle.sf_model.specs.Content.{content_fits}
use Rattle.sf_model.specs.Function.{RowsRise}
use Rattle.sf_model.specs.Memory.{Region}
use Rattle.sf_model.specs.Table.{Table}
use Rattle.sf_model.specs.Tight.{Tight}
use Rattle.sf_model.specs.Walk.{recover_by_rows}
use Rattle.sf_model.specs.Width.{holds_unsigned}
use Rattle.sf_sizes.specs.RowLength.{row_len}
use Rattle.sf_write.specs.Row.{rows_len}
use Rattle.sf_slim.specs.Slim.{content_at}

-- the bytes of rows whose starts have this width, each with the least width for its offsets
abbrev pub row_bytes : (start_width : ℕ) → List Row → ℕ
row_bytes start_width rows = sum_by (λ (r : Row). row_len start_width r.content) rows

-- a width holds the start of each row
abbrev pub HoldsStarts : (start_width : ℕ) → List Row → Type 0
HoldsStarts start_width rows = All (λ (r : Row). IsTrue (holds_unsigned r.start start_width)) rows

-- The rows stand for the function: their starts strictly rise, their contents fit, and at each offset below the function's size
-- they have the content that the function's own rows have there, or none.
pub record StandsFor (arch : Arch) (f : Func) (rows : List Row) : Type 0 where
  pub rise : RowsRise rows
  pub fit : All (λ (r : Row). IsTrue (content_fits arch r.content)) rows
  pub same : (offset : ℕ) → offset < f.size → content_at rows offset ≡ content_at f.rows offset

-- the function's own rows take the fewest bytes of all rows that stand for it
abbrev pub HasLeastRows : Arch → Func → Type 0
HasLeastRows arch f = (rows : List Row) (width : ℕ) → StandsFor arch f rows → width ≤ 2 → HoldsStarts width rows → rows_len f.rows ≤ row_bytes width rows

-- ---- whole sections
-- at every address both recover the same for all registers and any memory, or both recover nothing
abbrev pub RecoverTheSame : (functions others : List Func) → Type 0
RecoverTheSame functions others = (pc : ℕ) (regs : Regs) (memory : List Region) → recover_by_rows functions memory pc regs ≡ recover_by_rows others memory pc regs

-- a function's start and size
abbrev pub span : Func → ℕ × ℕ
span f = (f.start, f.size)

-- the function's rows are looked up by the offset
abbrev pub IsPlain : Func → Type 0
IsPlain f = f.shape ≡ Plain

-- These bytes are a section of this table without gaps, of the same machine, whose functions have the same starts and sizes as
-- these and are looked up by the offset, and at every address it recovers what the given table recovers.
pub record HasSameContent (given : Table) (functions : List Func) (at : ℕ) (bytes : List ℕ) (table : Table) : Type 0 where
  pub tight : Tight bytes at table
  pub machine : table.arch ≡ given.arch
  pub plain : All IsPlain table.functions
  pub spans : map span table.functions ≡ map span functions
  pub alike : RecoverTheSame table.functions given.functions

-- no section of plain functions that recovers the same is shorter
abbrev pub IsLeast : (given : Table) → (functions : List Func) → (len : ℕ) → Type 0
IsLeast given functions len = (at : ℕ) (bytes : List ℕ) (table : Table) → HasSameContent given functions at bytes table → len ≤ length bytes
