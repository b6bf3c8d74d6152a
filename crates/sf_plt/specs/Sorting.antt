-- Inside the crate: functions in the order of their starts, and functions that are omitted, for the code that sorts them.
use Rattle.std.specs.Prelude.{◌≡◌, ℕ, false, List, [], ◌∷◌}
use Rattle.sf_model.specs.declared.function.Func.{Func}
use Rattle.frame_functions.specs.Functions.{Function}
use Rattle.frame_functions.specs.Kept.{is_kept}

-- the function's start
abbrev pub func_start : Func → ℕ
func_start f = f.start

-- SFrame can express none of the functions
abbrev pub AreOmitted : List Function → Type 0
AreOmitted [] = Unit {0}
AreOmitted (f ∷ fs) = (is_kept f ≡ false) × AreOmitted fs
