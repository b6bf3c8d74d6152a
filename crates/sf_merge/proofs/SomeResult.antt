-- Merging has a result: functions can be sorted by their starts.
use Rattle.std.proofs.Common.{ℕ, List, Option, Some, None, Result, Err, refl}
use Rattle.sf_model.specs.declared.function.Func.{Func}
use Rattle.sf_model.specs.Table.{Table}
use Rattle.sf_functions.specs.Order.{IsInOrder}
use Rattle.sf_functions.proofs.ByStart.{by_key, in_order}
use Rattle.sf_merge.specs.declared.fault.MergeFault.{MergeFault}
use Rattle.sf_merge.specs.declared.located.Located.{Located}
use Rattle.sf_merge.specs.Located.{located_start, sized_in_all}
use Rattle.sf_merge.specs.Merging.{Merges, MergesUnless, ordered_fault, sections_fault, unless_fault, merged_functions}

pub some_order : (all : List Located) → (ordered : List Located) × IsInOrder located_start all ordered
some_order all = (by_key located_start all, in_order located_start all)

some_from : (tables : List Table) (at : ℕ) (fault : Option MergeFault) → (result : Result (List Func) MergeFault) × MergesUnless fault tables at result
some_from tables at (Some fault) = (Err fault, refl)
some_from tables at None = let some = some_order (sized_in_all tables) in (unless_fault (ordered_fault at some.0) (merged_functions some.0), (some.0, some.1, refl))

pub some_result : (tables : List Table) (at : ℕ) → (result : Result (List Func) MergeFault) × Merges tables at result
some_result tables at = some_from tables at (sections_fault tables)
