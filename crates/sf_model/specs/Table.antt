-- GNU SFrame specification, Version 2: the content of a section, apart from its bytes.
use Rattle.std.specs.Prelude.{ℕ, List, length, sum_by}
use Rattle.sf_model.specs.declared.machine.Arch.{Arch}
use Rattle.sf_model.specs.declared.function.Func.{Func}

-- the machine, the preamble's flags, and the functions in the order of their entries
pub record Table : Type 0 where
  pub arch : Arch
  pub flags : ℕ
  pub functions : List Func

-- the number of rows of all functions
abbrev pub row_count : List Func → ℕ
row_count functions = sum_by (λ (f : Func). length f.rows) functions
