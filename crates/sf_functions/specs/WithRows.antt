-- GNU SFrame specification, Version 2, function descriptor entries: functions that have rows.
use Rattle.std.specs.Prelude.{◌≡◌, Bool, true, List, All, Option}
use Rattle.std.specs.Option.{is_some}

-- the function has rows: its stored function is given
abbrev pub has_rows : {X Y : Type 0} (stored : X → Option Y) → X → Bool
has_rows stored x = is_some (stored x)

-- each of the functions has rows
abbrev pub HaveRows : {X Y : Type 0} (stored : X → Option Y) → List X → Type 0
HaveRows stored functions = All (λ x. has_rows stored x ≡ true) functions
