-- GNU SFrame specification, Version 2, function and frame row entry info words: the least width that holds a number.
use Rattle.std.specs.Prelude.{ℕ, Bool, if◌then◌else◌}

-- the least width that holds what it is asked to hold, if width 2 does
abbrev pub least_width : (ℕ → Bool) → ℕ
least_width holds = if holds 0 then 0 else (if holds 1 then 1 else 2)
