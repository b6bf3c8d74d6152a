-- Which faults are refusals of the inputs, with a line of their own, and which ones a call returns.
use Rattle.std.specs.Prelude.{ℕ, Bool, true, false}
use Rattle.frame_functions.specs.declared.fault.AsmFault.{AsmFault}
use Rattle.frame_functions.specs.declared.fault.AsmFault.TheVariants as asm
use Rattle.sf_write.specs.declared.fault.WriteFault.{WriteFault}
use Rattle.sf_write.specs.declared.fault.WriteFault.TheVariants as write
use Rattle.sf_asm.specs.declared.fault.GatherFault.{GatherFault}
use Rattle.sf_asm.specs.declared.fault.GatherFault.TheVariants as gather
use Rattle.sf_asm.specs.declared.fault.LinkFault.{LinkFault}
use Rattle.sf_asm.specs.declared.fault.LinkFault.TheVariants as link
use Rattle.frame_functions.specs.Fault.{is_input_refusal}

-- a refusal of the inputs while they are gathered
abbrev pub is_gather_refusal : GatherFault → Bool
is_gather_refusal (gather.Input item fault) = is_input_refusal fault
is_gather_refusal (gather.MixedArch item other) = true
is_gather_refusal gather.TooManyFunctions = false
is_gather_refusal gather.TooManyRows = false
is_gather_refusal (gather.Overlap start item other other_item) = true
is_gather_refusal gather.NoMemory = false

-- a refusal, or a limit
abbrev pub is_wrapped_answered : GatherFault → Bool
is_wrapped_answered (gather.Input item fault) = is_input_refusal fault
is_wrapped_answered (gather.MixedArch item other) = true
is_wrapped_answered gather.TooManyFunctions = true
is_wrapped_answered gather.TooManyRows = true
is_wrapped_answered (gather.Overlap start item other other_item) = true
is_wrapped_answered gather.NoMemory = false

-- what gathering returns: a refusal, a limit, or out of memory on its own
abbrev pub is_gather_answered : GatherFault → Bool
is_gather_answered gather.NoMemory = true
is_gather_answered fault = is_wrapped_answered fault

-- a refusal of the inputs, which has a line
abbrev pub is_link_refusal : LinkFault → Bool
is_link_refusal (link.Gather fault) = is_gather_refusal fault
is_link_refusal (link.OutOfReach start) = true
is_link_refusal link.NoMemory = false

-- what the outermost call returns: a refusal, a limit, or out of memory on its own
abbrev pub is_answered : LinkFault → Bool
is_answered (link.Gather fault) = is_wrapped_answered fault
is_answered (link.OutOfReach start) = true
is_answered link.NoMemory = true

-- the same for a fault of an input
abbrev pub wraps_input : (item : ℕ) → AsmFault → GatherFault
wraps_input item asm.NoMemory = gather.NoMemory
wraps_input item fault = gather.Input item fault

-- a fault of gathering as one of linking, where out of memory is not wrapped
abbrev pub wraps_gathering : GatherFault → LinkFault
wraps_gathering gather.NoMemory = link.NoMemory
wraps_gathering fault = link.Gather fault

-- a fault of writing the section as one of linking
abbrev pub wraps_writing : WriteFault → LinkFault
wraps_writing (write.OutOfReach start) = link.OutOfReach start
wraps_writing write.NoMemory = link.NoMemory
