-- The result of slimming a section (GNU SFrame specification, Version 2): the functions that are written, or the first
-- fault.
use Rattle.std.specs.Prelude.{◌≡◌, ℕ, List, map, Option, Result}
use Rattle.std.specs.Option.{option_map}
use Rattle.std.specs.List.{filter}
use Rattle.sf_model.specs.declared.function.Func.{Func}
use Rattle.sf_model.specs.Table.{Table}
use Rattle.sf_write.specs.Reach.{first_out_of_reach}
use Rattle.sf_functions.specs.Order.{IsInOrder}
use Rattle.sf_merge.specs.declared.located.Located.{Located}
use Rattle.sf_merge.specs.Located.{located_functions, located_start}
use Rattle.sf_merge.specs.OneSection.{shared_entry}
use Rattle.sf_slim.specs.declared.fault.SlimFault.{SlimFault}
use Rattle.sf_slim.specs.declared.fault.SlimFault.TheVariants.{Overlap, OutOfReach}
use Rattle.sf_slim.specs.Slim.{is_live, slim_function}
pub use Rattle.sf_model.specs.Firsts.{or_later, unless_fault}
pub use Rattle.sf_merge.specs.OneSection.{sized_in}

-- the fault of the first two neighbours that share an address: the place of the second one's entry
unfoldable pub slim_overlap_fault : (bytes : List ℕ) → List Located → Option SlimFault
slim_overlap_fault bytes ordered = option_map Overlap (shared_entry bytes ordered)

-- the functions that are written: those that have a row at some address, with the rows that are needed
unfoldable pub slimmed : List Located → List Func
slimmed ordered = map slim_function (filter is_live (located_functions ordered))

-- the fault of the first function that lies too far from its start field, in a section at this address
abbrev pub slim_reach_fault : (at : ℕ) → List Func → Option SlimFault
slim_reach_fault at functions = option_map OutOfReach (first_out_of_reach at 0 functions)

-- slimming the section of these bytes and this table, for this address, has this result; the functions that hold an address
-- are in the order of their starts, and then of their entries
abbrev pub Slims : (bytes : List ℕ) → Table → (at : ℕ) → Result (List Func) SlimFault → Type 0
Slims bytes table at result =
    (ordered : List Located) × IsInOrder located_start (sized_in table) ordered
    × (result ≡ unless_fault (or_later (slim_overlap_fault bytes ordered) (slim_reach_fault at (slimmed ordered))) (slimmed ordered))
