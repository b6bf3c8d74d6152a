-- What calls answer, by the definitions of what a section comes to (LSB Core, "The .eh_frame section").
use Rattle.std.specs.Prelude.{◌≡◌, ◌⊎◌, ℕ, List, ◌++◌, Option, Result, Ok, Err}
use Rattle.cfa_machine.specs.declared.fault.MachineFault.{MachineFault}
use Rattle.eh_records.specs.declared.fault.RecordFault.{RecordFault}
use Rattle.eh_records.specs.Section.{EntryView}
use Rattle.elf_reloc.specs.declared.fault.RelocFault.{RelocFault}
use Rattle.frame_functions.specs.declared.read_function.ReadFunction.{ReadFunction}
use Rattle.frame_functions.specs.declared.fault.AsmFault.{AsmFault}
use Rattle.frame_functions.specs.declared.fault.AsmFault.TheVariants as asm
use Rattle.sf_bytes.specs.Steps.{named}
use Rattle.sf_model.specs.Firsts.{unless}
use Rattle.frame_functions.specs.Functions.{Function}
use Rattle.frame_functions.specs.Kept.{read_of, omitted_functions}

-- ---- Inside the crate: what inner calls return
-- a value that is seen as another one
abbrev pub seen_as : {A B F : Type 0} → (A → B) → Result A F → Result B F
seen_as view (Ok x) = Ok (view x)
seen_as view (Err fault) = Err fault

-- what was read of one function is what becomes of it; or its fault was returned, or memory ran out
abbrev pub ReadsOne : Result ReadFunction AsmFault → Result Function AsmFault → Type 0
ReadsOne (Ok entry) given = seen_as read_of given ≡ Ok entry
ReadsOne (Err fault) given = (fault ≡ asm.NoMemory) ⊎ (given ≡ Err fault)

-- the fault of the first instruction of a section's function that can't be run was returned, or memory ran out
abbrev pub IsRunFault : (section : ℕ) → AsmFault → Option MachineFault → Type 0
IsRunFault section fault first = (fault ≡ asm.NoMemory) ⊎ (named (asm.Machine section) (unless first) ≡ Err fault)

-- the fault of the rows that are left was returned, or memory ran out
abbrev pub IsRowsFault : {X : Type 0} → (section : ℕ) → AsmFault → Result X MachineFault → Type 0
IsRowsFault section fault given = (fault ≡ asm.NoMemory) ⊎ (named (asm.Machine section) given ≡ Err fault)

-- the fault of a section's records was returned, or memory ran out
abbrev pub IsRecordsFault : (section : ℕ) → AsmFault → Result (List EntryView) RecordFault → Type 0
IsRecordsFault section fault given = (fault ≡ asm.NoMemory) ⊎ (named (asm.Record section) given ≡ Err fault)

-- the fault of a section's relocations was returned, or memory ran out
abbrev pub IsRelocFault : {X : Type 0} → (section : ℕ) → AsmFault → Result X RelocFault → Type 0
IsRelocFault section fault given = (fault ≡ asm.NoMemory) ⊎ (named (asm.Reloc section) given ≡ Err fault)

-- what was read before the others
abbrev pub after_read : {X F : Type 0} → List X → Result (List X) F → Result (List X) F
after_read before (Ok others) = Ok (before ++ others)
after_read before (Err fault) = Err fault

-- what was lent of all functions is the omitted ones
abbrev pub LendsAll : {F : Type 0} → (lent : List Function) → Result (List Function) F → Type 0
LendsAll lent given = seen_as omitted_functions given ≡ Ok lent
