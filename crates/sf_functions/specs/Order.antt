-- GNU SFrame specification, Version 2, the flag SFRAME_F_FDE_SORTED: functions by rising start.
use Rattle.std.specs.Prelude.{ℕ, List}
use Rattle.std.specs.List.Sorted.{IsPermutation, IsNonDecreasingBy, IsStableByKey}
use Rattle.std.specs.Ordering.{nat_cmp}

-- the same functions by rising start; those of one start stay in their order
pub record IsInOrder {X : Type 0} (start : X → ℕ) (all ordered : List X) : Type 0 where
  pub moved : IsPermutation all ordered
  pub rising : IsNonDecreasingBy start ordered
  pub stable : IsStableByKey start nat_cmp all ordered
