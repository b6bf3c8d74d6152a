-- The limits of functions and rows, and their faults.
use Rattle.std.specs.List.Sorted.{IsPermutation}
use Rattle.std.specs.Option.{option_map}
use Rattle.std.proofs.Common.{◌≡◌, ◌^◌, ◌≤◌, List, length, sum_by, Some, None, ap}
use Rattle.sf_functions.specs.declared.limits.Limit.{Limit}
use Rattle.sf_functions.proofs.LimitsHeld.{none_over}
use Rattle.frame_functions.specs.declared.read_function.ReadFunction.{ReadFunction}
use Rattle.frame_functions.specs.Order.{read_rows, exceeded_by}
use Rattle.frame_functions.proofs.Limits as limits
use Rattle.frame_functions.proofs.ReadSoFar as read
use Rattle.sf_asm.specs.Linking.{fault_of_limit, limits_fault}

-- the fault of a limit that they exceed
pub fault_is : (entries : List ReadFunction) (limit : Limit) → exceeded_by entries ≡ Some limit → limits_fault entries ≡ Some (fault_of_limit limit)
unfolding limits_fault
fault_is entries limit h = ap (option_map fault_of_limit) h

pub no_fault : (entries : List ReadFunction) → exceeded_by entries ≡ None → limits_fault entries ≡ None
unfolding limits_fault
no_fault entries h = ap (option_map fault_of_limit) h

pub within_limits : (entries : List ReadFunction) → length entries ≤ 2 ^ 21 → sum_by read_rows entries ≤ 2 ^ 24 → limits_fault entries ≡ None
within_limits entries few small = no_fault entries (limits.within_limits entries few small)

-- in another order
pub limits_moved : (all ordered : List ReadFunction) → IsPermutation all ordered → limits_fault ordered ≡ limits_fault all
unfolding limits_fault
limits_moved all ordered moved = ap (option_map fault_of_limit) (read.limits_moved all ordered moved)

-- ---- and back
no_limit : (entries : List ReadFunction) → limits_fault entries ≡ None → exceeded_by entries ≡ None
unfolding limits_fault
no_limit entries h = none_over fault_of_limit (exceeded_by entries) h

pub few_functions : (entries : List ReadFunction) → limits_fault entries ≡ None → length entries ≤ 2 ^ 21
few_functions entries h = limits.few_functions entries (no_limit entries h)

pub few_rows : (entries : List ReadFunction) → limits_fault entries ≡ None → sum_by read_rows entries ≤ 2 ^ 24
few_rows entries h = limits.few_rows entries (no_limit entries h)
