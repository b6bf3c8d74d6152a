-- The result of verifying a section against inputs: the verdict, or the first fault (GNU SFrame specification, Version 2; DWARF 5,
-- section 6.4). The section is item 0, and the inputs are numbered from 1 on.
use Rattle.std.specs.Prelude.{◌≡◌, ◌⊎◌, ℕ, List, Option, Some, None, Result, Ok, Err}
use Rattle.std.specs.Option.{option_map}
use Rattle.sf_model.specs.declared.verdict.Verdict.{Verdict}
use Rattle.sf_model.specs.Table.{Table}
use Rattle.sf_functions.specs.Order.{IsInOrder}
use Rattle.sf_merge.specs.declared.located.Located.{Located}
use Rattle.sf_merge.specs.Located.{located_start}
use Rattle.sf_merge.specs.OneSection.{shared_entry}
use Rattle.sf_asm.specs.Described.{Describe}
use Rattle.frame_functions.specs.declared.read_function.ReadFunction.{ReadFunction}
use Rattle.sf_asm.specs.declared.fault.GatherFault.{GatherFault}
use Rattle.sf_asm.specs.declared.fault.GatherFault.TheVariants as gather
use Rattle.frame_functions.specs.Functions.{Function}
use Rattle.sf_asm.specs.Functions.{Object}
use Rattle.sf_asm.specs.Linking.{Gathers}
use Rattle.sf_verify.specs.declared.fault.VerifyFault.{VerifyFault}
use Rattle.sf_verify.specs.declared.fault.VerifyFault.TheVariants.{Gather, Overlap, NoMemory}
use Rattle.sf_verify.specs.Agreement.{IsVerdict}
pub use Rattle.sf_merge.specs.OneSection.{sized_in}

-- the fault of the first two neighbours of the section that share an address: the place of the second one's entry
unfoldable pub section_fault : (bytes : List ℕ) → List Located → Option VerifyFault
section_fault bytes ordered = option_map Overlap (shared_entry bytes ordered)

-- the fault of the inputs; but if two of their functions share an address, and also two of the section, that of the section
abbrev pub refused : (section : Option VerifyFault) → GatherFault → VerifyFault
refused section gather.NoMemory = NoMemory
refused (Some shared) (gather.Overlap start item other second) = shared
refused section fault = Gather fault

-- the first fault of the inputs and the section
abbrev pub first_verify_fault : Result (List ReadFunction) GatherFault → (section : Option VerifyFault) → Option VerifyFault
first_verify_fault (Ok ordered) section = section
first_verify_fault (Err fault) section = Some (refused section fault)

-- the result is the fault if there is one, and else the verdict by the functions of the inputs
abbrev pub VerdictUnless : Option VerifyFault → Table → List Object → Result Verdict VerifyFault → Type 0
VerdictUnless (Some fault) table objects result = result ≡ Err fault
VerdictUnless None table objects result =
    (functions : List Function) × Describe 1 objects (Ok functions) × (verdict : Verdict) × IsVerdict table.functions functions verdict × (result ≡ Ok verdict)

-- verifying the section of these bytes and this table against these inputs has this result; the functions of the section that hold
-- an address are in the order of their starts, and then of their entries
abbrev pub Verifies : (bytes : List ℕ) → Table → List Object → Result Verdict VerifyFault → Type 0
Verifies bytes table objects result =
    (inputs : Result (List ReadFunction) GatherFault) × Gathers (Some table.arch) objects inputs
    × (ordered : List Located) × IsInOrder located_start (sized_in table) ordered
    × VerdictUnless (first_verify_fault inputs (section_fault bytes ordered)) table objects result

-- the fault is the first one, or memory ran out
abbrev pub IsFirstVerifyFault : (bytes : List ℕ) → Table → List Object → VerifyFault → Type 0
IsFirstVerifyFault bytes table objects fault = (fault ≡ NoMemory) ⊎ Verifies bytes table objects (Err fault)
