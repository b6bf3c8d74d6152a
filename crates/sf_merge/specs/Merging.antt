-- Sections merged as a linker does it (GNU SFrame specification, Version 2): the functions that are written, or the first
-- fault. The faults are checked in the order in which they are here.
use Rattle.std.specs.Prelude.{◌≡◌, ℕ, Bool, true, false, not, List, [], ◌∷◌, length, sum_by, Option, Some, None, Result, Err}
use Rattle.std.specs.Option.{option_map}
use Rattle.std.specs.List.{enumerate_from, filter, find}
use Rattle.sf_model.specs.declared.machine.Arch.{Arch}
use Rattle.sf_model.specs.declared.machine.Arch.TheVariants.{Amd64, Aarch64}
use Rattle.sf_model.specs.declared.function.Func.{Func}
use Rattle.sf_model.specs.Table.{Table, row_count}
use Rattle.sf_model.specs.Union.{is_of_use}
use Rattle.sf_write.specs.Reach.{first_out_of_reach}
use Rattle.sf_functions.specs.declared.limits.Limit.{Limit}
use Rattle.sf_functions.specs.declared.limits.Limit.TheVariants.{Functions, Rows}
use Rattle.sf_functions.specs.Limits.{exceeded}
use Rattle.sf_functions.specs.Neighbours.{first_overlap}
use Rattle.sf_functions.specs.Order.{IsInOrder}
use Rattle.sf_merge.specs.declared.located.Located.{Located}
use Rattle.sf_merge.specs.declared.fault.MergeFault.{MergeFault}
use Rattle.sf_merge.specs.declared.fault.MergeFault.TheVariants.{MixedArch, TooManyFunctions, TooManyRows, Overlap, OutOfReach}
use Rattle.sf_merge.specs.Located.{located_functions, located_size, located_start, sized_in_all}
pub use Rattle.sf_model.specs.Firsts.{or_later, unless_fault, unless}

-- ---- machines
-- two machines are one
abbrev pub same_arch : Arch → Arch → Bool
same_arch Amd64 Amd64 = true
same_arch Aarch64 Aarch64 = true
same_arch a b = false

-- the section's machine is another one
abbrev pub is_other : Arch → ℕ × Table → Bool
is_other arch section = not (same_arch arch section.1.arch)

-- the fault of a section whose machine isn't that of section 0
abbrev pub mixed_with_first : ℕ × Table → MergeFault
mixed_with_first section = MixedArch 0 section.0

-- the fault of the first section whose machine isn't that of section 0
abbrev pub other_machine_fault : List Table → Option MergeFault
other_machine_fault [] = None
other_machine_fault (first ∷ later) = option_map mixed_with_first (find (is_other first.arch) (enumerate_from 0 (first ∷ later)))

-- ---- limits
-- the number of functions of all sections together
abbrev pub functions_in_all : List Table → ℕ
functions_in_all tables = sum_by (λ (table : Table). length table.functions) tables

-- the number of rows of all sections together
abbrev pub rows_in_all : List Table → ℕ
rows_in_all tables = sum_by (λ (table : Table). row_count table.functions) tables

-- the fault of a limit
abbrev pub fault_of_limit : Limit → MergeFault
fault_of_limit Functions = TooManyFunctions
fault_of_limit Rows = TooManyRows

-- the fault of more than 2^21 functions in all sections together, or else of more than 2^24 rows
abbrev pub limits_fault_in_all : List Table → Option MergeFault
limits_fault_in_all tables = option_map fault_of_limit (exceeded (functions_in_all tables) (rows_in_all tables))

-- ---- overlaps
-- the fault of two functions that share an address
abbrev pub shared_by : Located × Located → MergeFault
shared_by pair = Overlap pair.0.func.start pair.0.item pair.1.func.start pair.1.item

-- the fault of the first two neighbours that share an address, of functions in order
unfoldable pub shared_address_fault : List Located → Option MergeFault
shared_address_fault ordered = option_map shared_by (first_overlap located_start located_size ordered)

-- ---- reach
-- the functions that are written: those that hold an address and have a row
abbrev pub merged_functions : List Located → List Func
merged_functions ordered = filter is_of_use (located_functions ordered)

-- the fault of the first function that lies too far from its start field, in a section at this address
abbrev pub reach_fault : (at : ℕ) → List Func → Option MergeFault
reach_fault at functions = option_map OutOfReach (first_out_of_reach at 0 functions)

-- ---- the first fault
-- the first fault of sections: their machines, and then the limits
abbrev pub sections_fault : List Table → Option MergeFault
sections_fault tables = or_later (other_machine_fault tables) (limits_fault_in_all tables)

-- the first fault of the functions that hold an address, in order: overlaps, and then the reach
abbrev pub ordered_fault : (at : ℕ) → List Located → Option MergeFault
ordered_fault at ordered = or_later (shared_address_fault ordered) (reach_fault at (merged_functions ordered))

-- ---- the result of merging: the functions that are written, or the first fault
-- the result, by the fault of the sections if there is one
abbrev pub MergesUnless : Option MergeFault → List Table → (at : ℕ) → Result (List Func) MergeFault → Type 0
MergesUnless (Some fault) tables at result = result ≡ Err fault
MergesUnless None tables at result =
    (ordered : List Located) × IsInOrder located_start (sized_in_all tables) ordered × (result ≡ unless_fault (ordered_fault at ordered) (merged_functions ordered))

-- merging these sections into one at this address has this result
abbrev pub Merges : List Table → (at : ℕ) → Result (List Func) MergeFault → Type 0
Merges tables at result = MergesUnless (sections_fault tables) tables at result
