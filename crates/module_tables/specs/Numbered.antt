-- The fault of a file that was the only input of a link, number 0, with the file's number among the items of a run.
use Rattle.std.specs.Prelude.{ℕ}
use Rattle.sf_asm.specs.declared.fault.GatherFault.{GatherFault}
use Rattle.sf_asm.specs.declared.fault.GatherFault.TheVariants as gather
use Rattle.sf_asm.specs.declared.fault.LinkFault.{LinkFault}
use Rattle.sf_asm.specs.declared.fault.LinkFault.TheVariants as link

-- a fault of the file is that of the item, and both functions that share an address are the item's
abbrev pub numbered_gathering : (item : ℕ) → GatherFault → GatherFault
numbered_gathering item (gather.Input number fault) = gather.Input item fault
numbered_gathering item (gather.Overlap start number other other_number) = gather.Overlap start item other item
numbered_gathering item fault = fault

-- the same of linking; no other fault has a number
abbrev pub numbered_fault : (item : ℕ) → LinkFault → LinkFault
numbered_fault item (link.Gather fault) = link.Gather (numbered_gathering item fault)
numbered_fault item fault = fault
