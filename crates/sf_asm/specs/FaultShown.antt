-- What the line of a fault of several inputs shows.
use Rattle.std.specs.Prelude.{ℕ, [], ◌∷◌, Option, Some, codes}
use Rattle.sf_model.specs.declared.notice.Group.TheVariants as group
use Rattle.sf_model.specs.FaultShown.{FaultShown, ShownFault, shown_fault, fault_at, not_shown}
use Rattle.sf_asm.specs.declared.fault.GatherFault.{GatherFault}
use Rattle.sf_asm.specs.declared.fault.GatherFault.TheVariants as gather
use Rattle.sf_asm.specs.declared.fault.LinkFault.{LinkFault}
use Rattle.sf_asm.specs.declared.fault.LinkFault.TheVariants as link
use Rattle.frame_functions.specs.FaultShown.{shown_asm}

-- of two machines the numbers of their items, and of an overlap the start and the input of both functions
abbrev pub shown_gather : GatherFault → ShownFault
shown_gather (gather.Input number fault) = shown_asm fault
shown_gather (gather.MixedArch first second) = shown_fault group.Link 1 (codes "MixedArch") (first ∷ second ∷ [])
shown_gather (gather.Overlap start first other second) = shown_fault group.Link 2 (codes "Overlap") (start ∷ first ∷ other ∷ second ∷ [])
shown_gather gather.TooManyFunctions = not_shown group.Link
shown_gather gather.TooManyRows = not_shown group.Link
shown_gather gather.NoMemory = not_shown group.Link

-- of a function out of reach its start
abbrev pub shown_link : LinkFault → ShownFault
shown_link (link.Gather fault) = shown_gather fault
shown_link (link.OutOfReach start) = fault_at group.Link 3 (codes "OutOfReach") start
shown_link link.NoMemory = not_shown group.Link

-- a fault of one input has that input's number
abbrev pub item_of_gathering : Option ℕ → GatherFault → Option ℕ
item_of_gathering item (gather.Input number fault) = Some number
item_of_gathering item fault = item

abbrev pub item_of_linking : Option ℕ → LinkFault → Option ℕ
item_of_linking item (link.Gather fault) = item_of_gathering item fault
item_of_linking item fault = item

-- a fault, as its line shows it
abbrev pub shown_of_gathering : Option ℕ → GatherFault → FaultShown
shown_of_gathering item fault = record { item = item_of_gathering item fault; fault = shown_gather fault }

abbrev pub shown_of_linking : Option ℕ → LinkFault → FaultShown
shown_of_linking item fault = record { item = item_of_linking item fault; fault = shown_link fault }
