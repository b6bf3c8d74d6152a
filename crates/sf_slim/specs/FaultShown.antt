-- What the line of a fault prints. Two functions that share an address are a fault of the section, as in a section with the
-- flag SFRAME_F_FDE_SORTED, and a start out of reach is a fault of linking.
use Rattle.std.specs.Prelude.{ℕ, Bool, true, false, Option, None}
use Rattle.sf_model.specs.FaultShown.{FaultShown}
use Rattle.sf_decode.specs.declared.fault.DecodeFault.TheVariants as decode
use Rattle.sf_decode.specs.FaultShown.{shown_of_section}
use Rattle.sf_merge.specs.declared.fault.MergeFault.TheVariants as merge
use Rattle.sf_merge.specs.FaultShown.{shown_of_merging}
use Rattle.sf_slim.specs.declared.fault.SlimFault.{SlimFault}
use Rattle.sf_slim.specs.declared.fault.SlimFault.TheVariants.{Overlap, OutOfReach, NoMemory}

-- what the line of a fault of slimming prints: the item and the entry's place, or the start without an item; out of memory
-- has no line
abbrev pub shown_of_slimming : Option ℕ → SlimFault → FaultShown
shown_of_slimming item (Overlap place) = shown_of_section item (decode.Overlap place)
shown_of_slimming item (OutOfReach start) = shown_of_merging None (merge.OutOfReach start)
shown_of_slimming item NoMemory = shown_of_merging None merge.NoMemory

-- the fault is not out of memory
abbrev pub is_slim_refusal : SlimFault → Bool
is_slim_refusal (Overlap place) = true
is_slim_refusal (OutOfReach start) = true
is_slim_refusal NoMemory = false
