-- GNU SFrame specification, Version 3, function descriptor entries of the default type (SFRAME_FDE_TYPE_DEFAULT): the content of a
-- section, apart from its bytes.
use Rattle.std.specs.Prelude.{ℕ, Bool, false, List, sum_by, length}
use Rattle.sf_model.specs.declared.machine.Arch.{Arch}
use Rattle.sf_model.specs.declared.function.Func.{Func}

-- A function as an entry describes it. Without rows, its frames are outermost ones.
pub record Described : Type 0 where
  pub func : Func
  -- its frames are signal frames
  pub is_signal : Bool

-- the machine, the preamble's flags, and the functions in the order of their entries
pub record Table : Type 0 where
  pub arch : Arch
  pub flags : ℕ
  pub functions : List Described

-- the number of rows of all functions
abbrev pub row_count : List Described → ℕ
row_count functions = sum_by (λ (d : Described). length d.func.rows) functions

-- a function of Version 2, which knows no signal frames
abbrev pub ordinary : Func → Described
ordinary f = record { func = f; is_signal = false }
