-- GNU SFrame specification, Version 2, function descriptor entries: how many rows the function with most rows has.
use Rattle.std.specs.Prelude.{ℕ, List, [], ◌∷◌, length, max}
use Rattle.sf_model.specs.declared.function.Func.{Func}

-- the number of rows of the function with most rows, 0 if there is no function
abbrev pub most_rows : List Func → ℕ
most_rows [] = 0
most_rows (f ∷ functions) = max (length f.rows) (most_rows functions)
