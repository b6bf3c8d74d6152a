-- Lists of functions by rising start (GNU SFrame specification, Version 2, the flag SFRAME_F_FDE_SORTED).
use Rattle.std.specs.Prelude.{◌<◌, List, length}
use Rattle.std.specs.List.{AllAdjacentBelow}
use Rattle.sf_model.specs.declared.function.Func.{Func}

-- each function starts above the one before it
abbrev pub RisesStrictly : List Func → Type 0
RisesStrictly functions = AllAdjacentBelow (λ (f : Func) (g : Func). f.start < g.start) functions (length functions)
