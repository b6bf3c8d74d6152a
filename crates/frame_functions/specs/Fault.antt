-- Which faults are refusals of an input, and how inner faults are passed on.
use Rattle.std.specs.Prelude.{ℕ, Bool, true, false}
use Rattle.elf_place.specs.declared.fault.PlaceFault.{PlaceFault}
use Rattle.elf_place.specs.declared.fault.PlaceFault.TheVariants as place_faults
use Rattle.elf_reloc.specs.declared.fault.RelocFault.{RelocFault}
use Rattle.elf_reloc.specs.declared.fault.RelocFault.TheVariants as reloc_faults
use Rattle.eh_records.specs.declared.fault.RecordFault.{RecordFault}
use Rattle.eh_records.specs.declared.fault.RecordFault.TheVariants as record_faults
use Rattle.cfa_machine.specs.declared.fault.MachineFault.{MachineFault}
use Rattle.cfa_machine.specs.declared.fault.MachineFault.TheVariants as machine_faults
use Rattle.frame_functions.specs.declared.fault.AsmFault.{AsmFault}
use Rattle.frame_functions.specs.declared.fault.AsmFault.TheVariants as asm

-- a fault of placing is a refusal: all but out of memory are
abbrev pub is_place_refusal : PlaceFault → Bool
is_place_refusal place_faults.NoMemory = false
is_place_refusal fault = true

-- the same for a fault of relocations
abbrev pub is_reloc_refusal : RelocFault → Bool
is_reloc_refusal reloc_faults.NoMemory = false
is_reloc_refusal fault = true

-- the same for a fault of records
abbrev pub is_record_refusal : RecordFault → Bool
is_record_refusal record_faults.NoMemory = false
is_record_refusal fault = true

-- the same for a fault of instructions
abbrev pub is_machine_refusal : MachineFault → Bool
is_machine_refusal machine_faults.NoMemory = false
is_machine_refusal fault = true

-- a refusal of one input
abbrev pub is_input_refusal : AsmFault → Bool
is_input_refusal (asm.Elf fault) = true
is_input_refusal (asm.Place fault) = is_place_refusal fault
is_input_refusal (asm.Reloc section fault) = is_reloc_refusal fault
is_input_refusal (asm.Record section fault) = is_record_refusal fault
is_input_refusal (asm.Machine section fault) = is_machine_refusal fault
is_input_refusal asm.NoMemory = false

-- ---- Inside the crate: how inner faults are passed on
-- a fault of placing as the input's, where out of memory is not wrapped
abbrev pub wraps_place : PlaceFault → AsmFault
wraps_place place_faults.NoMemory = asm.NoMemory
wraps_place fault = asm.Place fault

-- the same for a fault of a section's relocations
abbrev pub wraps_reloc : (section : ℕ) → RelocFault → AsmFault
wraps_reloc section reloc_faults.NoMemory = asm.NoMemory
wraps_reloc section fault = asm.Reloc section fault

-- the same for a fault of its records
abbrev pub wraps_record : (section : ℕ) → RecordFault → AsmFault
wraps_record section record_faults.NoMemory = asm.NoMemory
wraps_record section fault = asm.Record section fault

-- the same for a fault of its instructions
abbrev pub wraps_machine : (section : ℕ) → MachineFault → AsmFault
wraps_machine section machine_faults.NoMemory = asm.NoMemory
wraps_machine section fault = asm.Machine section fault
