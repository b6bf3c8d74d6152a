-- The limits of functions and rows.
use Rattle.std.proofs.Common.{◌≡◌, ◌^◌, ◌<◌, ◌≤◌, List, length, sum_by, Some, None}
use Rattle.sf_functions.specs.declared.limits.Limit.TheVariants as limit
use Rattle.sf_functions.proofs.LimitsHeld as limits
use Rattle.sf_functions.proofs.LimitsHeld.{none_exceeded}
use Rattle.frame_functions.specs.declared.read_function.ReadFunction.{ReadFunction}
use Rattle.frame_functions.specs.Order.{read_rows, exceeded_by}

pub too_many_functions : (entries : List ReadFunction) → 2 ^ 21 < length entries → exceeded_by entries ≡ Some limit.Functions
unfolding exceeded_by
too_many_functions entries many = limits.too_many_functions (length entries) (sum_by read_rows entries) many

pub too_many_rows : (entries : List ReadFunction) → length entries ≤ 2 ^ 21 → 2 ^ 24 < sum_by read_rows entries → exceeded_by entries ≡ Some limit.Rows
unfolding exceeded_by
too_many_rows entries few many = limits.too_many_rows (length entries) (sum_by read_rows entries) few many

pub within_limits : (entries : List ReadFunction) → length entries ≤ 2 ^ 21 → sum_by read_rows entries ≤ 2 ^ 24 → exceeded_by entries ≡ None
unfolding exceeded_by
within_limits entries few small = none_exceeded (length entries) (sum_by read_rows entries) few small

-- ---- and back
pub few_functions : (entries : List ReadFunction) → exceeded_by entries ≡ None → length entries ≤ 2 ^ 21
unfolding exceeded_by
few_functions entries h = limits.few_functions (length entries) (sum_by read_rows entries) h

pub few_rows : (entries : List ReadFunction) → exceeded_by entries ≡ None → sum_by read_rows entries ≤ 2 ^ 24
unfolding exceeded_by
few_rows entries h = limits.few_rows (length entries) (sum_by read_rows entries) h
