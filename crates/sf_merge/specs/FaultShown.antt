-- What the line of a fault of merging shows: two sections of different machines, two functions with their sections, or a start. The
-- limits and out of memory have no line.
use Rattle.std.specs.Prelude.{ℕ, [], ◌∷◌, Option, codes}
use Rattle.sf_model.specs.declared.notice.Group.TheVariants as group
use Rattle.sf_model.specs.FaultShown.{FaultShown, ShownFault, shown_fault, fault_at, not_shown}
use Rattle.sf_merge.specs.declared.fault.MergeFault.{MergeFault}
use Rattle.sf_merge.specs.declared.fault.MergeFault.TheVariants as merge

abbrev pub shown_merge : MergeFault → ShownFault
shown_merge (merge.MixedArch first other) = shown_fault group.Link 1 (codes "MixedArch") (first ∷ other ∷ [])
shown_merge (merge.Overlap start first other second) = shown_fault group.Link 2 (codes "Overlap") (start ∷ first ∷ other ∷ second ∷ [])
shown_merge (merge.OutOfReach start) = fault_at group.Link 3 (codes "OutOfReach") start
shown_merge merge.TooManyFunctions = not_shown group.Link
shown_merge merge.TooManyRows = not_shown group.Link
shown_merge merge.NoMemory = not_shown group.Link

-- a fault, as its line shows it
abbrev pub shown_of_merging : Option ℕ → MergeFault → FaultShown
shown_of_merging item fault = record { item = item; fault = shown_merge fault }
