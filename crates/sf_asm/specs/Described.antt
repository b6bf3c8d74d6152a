-- The functions that inputs describe, by what their bytes are (LSB Core, "The .eh_frame section"; DWARF 5, section 6.4): the records of
-- each section with their fields, and the instructions of each function; all functions in the order of inputs, sections and records, or
-- the first fault. Each relation holds of one result alone (the law `functions_are_described`).
use Rattle.std.specs.Prelude.{◌≡◌, ℕ, ◌+◌, not, List, [], ◌∷◌, ◌++◌, filter, Option, Result, Ok, Err}
use Rattle.sf_model.specs.declared.machine.Arch.{Arch}
use Rattle.cfa_insn.specs.Listing.{Item}
use Rattle.cfa_insn.specs.Spelling.{AreInstructions}
use Rattle.eh_records.specs.declared.fault.RecordFault.{RecordFault}
use Rattle.eh_records.specs.Fde.{FdeView}
use Rattle.eh_records.specs.Refused.{AreReadAs}
use Rattle.eh_records.specs.Section.{EntryView, frames, pointer_fields}
use Rattle.frame_functions.specs.declared.fault.AsmFault.{AsmFault}
use Rattle.frame_functions.specs.declared.fault.AsmFault.TheVariants.{Reloc, Record}
use Rattle.sf_asm.specs.declared.fault.GatherFault.{GatherFault}
use Rattle.sf_asm.specs.declared.fault.GatherFault.TheVariants.{Input as RefusedInput}
use Rattle.frame_functions.specs.Functions.{Function, by_instructions}
use Rattle.sf_asm.specs.Inputs.{first_item, mixed_fault}
use Rattle.frame_functions.specs.Relocated.{Values, on_pointers, patched_values}
use Rattle.frame_functions.specs.CallFrames.{CallFrames}
use Rattle.sf_asm.specs.Sections.{Object, SectionsAre, files_in, machine_of}
use Rattle.sf_bytes.specs.Steps.{◌>>=◌, named}
use Rattle.sf_model.specs.Firsts.{unless}

-- ---- the results of parts, put together
-- functions, and those after them; or the first fault
abbrev pub joined : {F : Type 0} → Result (List Function) F → Result (List Function) F → Result (List Function) F
joined first others = first >>= λ fs. others >>= λ gs. Ok (fs ++ gs)

-- what consecutive parts describe, each by itself
abbrev pub AllDescribe : {X F : Type 0} → (X → Result (List Function) F → Type 0) → List X → Result (List Function) F → Type 0
AllDescribe Describes [] result = result ≡ Ok []
AllDescribe {F = F} Describes (x ∷ xs) result =
    (first : Result (List Function) F) × Describes x first × (others : Result (List Function) F) × AllDescribe Describes xs others × (result ≡ joined first others)

-- a relation between a value and a result; the fault in the value's place is the result
abbrev pub OrFault : {X Y F : Type 0} → (X → Result Y F → Type 0) → Result X F → Result Y F → Type 0
OrFault Is (Ok x) result = Is x result
OrFault Is (Err fault) result = result ≡ Err fault

-- ---- one function
-- a frame description entry describes this one function, or has this fault
pub record FrameDescribes (arch : Arch) (item : ℕ) (section : CallFrames) (values : Values) (f : FdeView) (result : Result (List Function) AsmFault) : Type 0 where
  pub initial : List Item
  pub own : List Item
  pub initial_are : AreInstructions initial f.cie.insns
  pub own_are : AreInstructions own f.insns
  pub is : result ≡ (by_instructions arch item section values f initial own >>= λ g. Ok (g ∷ []))

-- ---- a section
-- the functions of these entries, but for those whose start lies in a dropped section
abbrev pub FramesDescribe : Arch → (item : ℕ) → CallFrames → Values → List FdeView → Result (List Function) AsmFault → Type 0
FramesDescribe arch item section values fs result =
    AllDescribe (FrameDescribes arch item section values) (filter (λ (f : FdeView). not (values.dropped f.begin)) fs) result

-- a section describes these functions, or has this fault: all its records come first, then its relocations, each of which lies on one of
-- their pointer fields
abbrev pub SectionDescribes : Arch → (item : ℕ) → CallFrames → Result (List Function) AsmFault → Type 0
SectionDescribes arch item section result =
    (entries : Result (List EntryView) RecordFault) × AreReadAs arch section.bytes entries
    × OrFault (λ es. OrFault (λ fixes. FramesDescribe arch item section (patched_values fixes section.bytes) (frames es)) (named (Reloc section.number) (section.relocations >>= on_pointers (pointer_fields es)))) (named (Record section.number) entries) result

-- ---- inputs
-- inputs that are numbered from `item` on, after these files
abbrev pub InputsDescribe : (earlier : List (List ℕ)) → (item : ℕ) → List Object → Result (List Function) GatherFault → Type 0
InputsDescribe earlier item [] result = result ≡ Ok []
InputsDescribe earlier item (object ∷ objects) result =
    (sections : Result (List CallFrames) AsmFault) × SectionsAre object.form earlier object.bytes object.base sections
    × (first : Result (List Function) AsmFault) × OrFault (AllDescribe (SectionDescribes (machine_of object) item)) sections first
    × (others : Result (List Function) GatherFault) × InputsDescribe (earlier ++ files_in object.form object.bytes) (item + 1) objects others
    × (result ≡ joined (named (RefusedInput item) first) others)

-- all inputs describe these functions, or have this first fault
abbrev pub Describe : (item : ℕ) → List Object → Result (List Function) GatherFault → Type 0
Describe item objects result = InputsDescribe [] item objects result

-- ---- all items
-- what was described, where all items have one machine
abbrev pub of_one_machine : (before : Option Arch) → List Object → Result (List Function) GatherFault → Result (List Function) GatherFault
of_one_machine before objects described = described >>= λ functions. (unless (mixed_fault before objects) >>= λ _. Ok functions)

-- all inputs, after an item of this machine or of none, describe these functions, or have this first fault
abbrev pub DescribeTogether : (before : Option Arch) → List Object → Result (List Function) GatherFault → Type 0
DescribeTogether before objects result = (described : Result (List Function) GatherFault) × Describe (first_item before) objects described × (result ≡ of_one_machine before objects described)
