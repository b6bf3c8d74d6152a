-- The result of upgrading a section of Version 2 to Version 3 (GNU SFrame specification): the functions that are written, or the first
-- fault.
use Rattle.std.specs.Prelude.{◌≡◌, ℕ, List, Option, Result}
use Rattle.std.specs.Option.{option_map}
use Rattle.sf_model.specs.declared.function.Func.{Func}
use Rattle.sf_model.specs.Firsts.{or_later, unless_fault}
use Rattle.sf_model.specs.Table.{Table}
use Rattle.sf_functions.specs.Order.{IsInOrder}
use Rattle.sf_decode.specs.Entry.{entry_place}
use Rattle.sf_merge.specs.declared.head.LocatedFunction.{LocatedFunction}
use Rattle.sf_merge.specs.declared.located.Located.{Located}
use Rattle.sf_merge.specs.Located.{located_start}
use Rattle.sf_merge.specs.Merging.{merged_functions}
use Rattle.sf_merge.specs.OneSection.{shared_entry, sized_in}
use Rattle.sf3_write.specs.Rows.{first_with_too_many_rows}
use Rattle.sf3_upgrade.specs.declared.fault.UpgradeFault.{UpgradeFault}
use Rattle.sf3_upgrade.specs.declared.fault.UpgradeFault.TheVariants.{Overlap, TooManyRows}

-- the fault of the first two neighbours that share an address: the place of the second one's entry
abbrev pub overlap_fault : (bytes : List ℕ) → List Located → Option UpgradeFault
overlap_fault bytes ordered = option_map Overlap (shared_entry bytes ordered)

-- the fault of the first function whose number of rows has more than 16 bits
abbrev pub rows_fault : List Func → Option UpgradeFault
rows_fault functions = option_map TooManyRows (first_with_too_many_rows functions)

-- Upgrading the section of these bytes and this table has this result. The functions that hold an address are in the order of their
-- starts, and then of their entries; those that have rows are written.
abbrev pub Upgrades : (bytes : List ℕ) → Table → Result (List Func) UpgradeFault → Type 0
Upgrades bytes table result =
    (ordered : List Located) × IsInOrder located_start (sized_in table) ordered
    × (result ≡ unless_fault (or_later (overlap_fault bytes ordered) (rows_fault (merged_functions ordered))) (merged_functions ordered))

-- ---- Inside the crate
-- the place of the second function's entry in a section of these bytes
abbrev pub later_head : (bytes : List ℕ) → LocatedFunction × LocatedFunction → ℕ
later_head bytes pair = entry_place bytes pair.1.number
