-- GNU SFrame specification, Version 3, sfda_func_num_fres: a function's number of rows has 16 bits.
use Rattle.std.specs.Prelude.{◌≡◌, ◌^◌, ℕ, Bool, nat_lt, List, [], ◌∷◌, length, Option, Some, None, if◌then◌else◌, ⊤}
use Rattle.sf_model.specs.declared.function.Func.{Func}
use Rattle.sf3_write.specs.declared.fault.WriteFault.{WriteFault}
use Rattle.sf3_write.specs.declared.fault.WriteFault.TheVariants.{TooManyRows, NoMemory}

-- a function can have this number of rows
abbrev pub are_few : (rows : ℕ) → Bool
are_few rows = nat_lt rows (2 ^ 16)

-- the start of the first function with too many rows
abbrev pub first_with_too_many_rows : List Func → Option ℕ
first_with_too_many_rows [] = None
first_with_too_many_rows (f ∷ functions) = if are_few (length f.rows) then first_with_too_many_rows functions else Some f.start

-- a refusal names the function with too many rows; out of memory names none
abbrev pub Refuses : WriteFault → Option ℕ → Type 0
Refuses (TooManyRows start) first = first ≡ Some start
Refuses NoMemory first = ⊤
