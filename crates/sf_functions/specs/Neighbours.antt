-- GNU SFrame specification, Version 2, function descriptor entries: functions by rising start, and two neighbours of them that
-- share an address.
use Rattle.std.specs.Prelude.{◌+◌, ℕ, Bool, nat_lt, List, drop, Option}
use Rattle.std.specs.List.{find, zip}

-- each element but the last, with the one after it
abbrev pub each_with_next : {X : Type 0} → List X → List (X × X)
each_with_next ordered = zip ordered (drop 1 ordered)

-- by these starts and sizes, the second function begins before the end of the first
abbrev pub overlap_by : {X : Type 0} (start size : X → ℕ) → X × X → Bool
overlap_by start size pair = nat_lt (start pair.1) (start pair.0 + size pair.0)

-- the first two neighbours that share an address
abbrev pub first_overlap : {X : Type 0} (start size : X → ℕ) → List X → Option (X × X)
first_overlap start size ordered = find (overlap_by start size) (each_with_next ordered)
