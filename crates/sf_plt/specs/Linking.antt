-- The result of linking if procedure linkage tables are written: the functions in order, or the first fault (GNU SFrame specification,
-- Version 2).
use Rattle.std.specs.Prelude.{◌≡◌, ◌+◌, ◌*◌, ℕ, List, length, map, sum_by, Option, Result, Ok, Err}
use Rattle.std.specs.Option.{option_map}
use Rattle.sf_model.specs.declared.machine.Arch.{Arch}
use Rattle.sf_write.specs.Reach.{first_out_of_reach}
use Rattle.sf_functions.specs.Limits.{exceeded}
use Rattle.sf_asm.specs.declared.fault.GatherFault.{GatherFault}
use Rattle.sf_asm.specs.declared.fault.LinkFault.{LinkFault}
use Rattle.sf_asm.specs.declared.fault.LinkFault.TheVariants.{Gather, OutOfReach}
use Rattle.frame_functions.specs.Functions.{Function}
use Rattle.sf_asm.specs.Functions.{Object}
use Rattle.sf_asm.specs.Described.{DescribeTogether}
use Rattle.frame_functions.specs.Kept.{read_of}
use Rattle.sf_asm.specs.Linking.{fault_of_limit, functions_fault, or_later}
use Rattle.frame_functions.specs.Order.{read_rows}
use Rattle.frame_functions.specs.Descriptions.{AreByStart}
use Rattle.sf_plt.specs.Plt.{plt_functions}
use Rattle.sf_plt.specs.Written.{written_functions}
pub use Rattle.sf_model.specs.Firsts.{unless_fault}

-- the fault of more than 2^21 functions, or else of more than 2^24 rows; each procedure linkage table counts as one more function and
-- as 4 rows
abbrev pub further_fault : (functions rows plts : ℕ) → Option GatherFault
further_fault functions rows plts = option_map fault_of_limit (exceeded (functions + plts) (rows + 4 * plts))

-- the same of functions by rising start, omitted ones included
unfoldable pub plts_fault : List Function → Option GatherFault
plts_fault sorted = further_fault (length sorted) (sum_by read_rows (map read_of sorted)) (length (plt_functions sorted))

-- the first fault of functions by rising start: the faults of all links; then the limits with procedure linkage tables; then a function
-- that is written out of reach
abbrev pub plt_link_fault : (at : ℕ) → List Function → Option LinkFault
plt_link_fault at sorted =
    or_later (option_map Gather (or_later (functions_fault (map read_of sorted)) (plts_fault sorted)))
    (option_map OutOfReach (first_out_of_reach at 0 (written_functions sorted)))

-- linking the functions that the inputs describe, or their fault, for this address has this result
abbrev pub LinksPltsFrom : (at : ℕ) → Result (List Function) GatherFault → Result (List Function) LinkFault → Type 0
LinksPltsFrom at (Ok functions) result = (sorted : List Function) × AreByStart functions sorted × (result ≡ unless_fault (plt_link_fault at sorted) sorted)
LinksPltsFrom at (Err fault) result = result ≡ Err (Gather fault)

-- linking inputs after an item of this machine, or inputs alone, for this address has this result
pub record LinksPlts (before : Option Arch) (objects : List Object) (at : ℕ) (result : Result (List Function) LinkFault) : Type 0 where
  pub given : Result (List Function) GatherFault
  pub described : DescribeTogether before objects given
  pub comes : LinksPltsFrom at given result
