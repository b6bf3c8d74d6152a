-- The faults of merging that have a line of their own, and those of the writer as faults of merging.
use Rattle.std.specs.Prelude.{Bool, true, false}
use Rattle.sf_write.specs.declared.fault.WriteFault.{WriteFault}
use Rattle.sf_write.specs.declared.fault.WriteFault.TheVariants as write
use Rattle.sf_merge.specs.declared.fault.MergeFault.{MergeFault}
use Rattle.sf_merge.specs.declared.fault.MergeFault.TheVariants as merge

-- the fault is not a limit and not out of memory
abbrev pub is_merge_refusal : MergeFault → Bool
is_merge_refusal (merge.MixedArch item other) = true
is_merge_refusal (merge.Overlap start item other other_item) = true
is_merge_refusal (merge.OutOfReach start) = true
is_merge_refusal merge.TooManyFunctions = false
is_merge_refusal merge.TooManyRows = false
is_merge_refusal merge.NoMemory = false

-- a fault of the writer as one of merging
abbrev pub of_writing : WriteFault → MergeFault
of_writing (write.OutOfReach start) = merge.OutOfReach start
of_writing write.NoMemory = merge.NoMemory
