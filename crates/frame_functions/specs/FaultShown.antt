-- What the line of an input's fault shows: after the number of its call frame section, if it is one of a section, what is shown of the fault.
use Rattle.std.specs.Prelude.{ℕ, ◌∷◌, Option}
use Rattle.sf_model.specs.declared.notice.Group.TheVariants as group
use Rattle.sf_model.specs.FaultShown.{FaultShown, ShownFault, shown_fault, not_shown}
use Rattle.cfa_machine.specs.FaultShown.{shown_machine}
use Rattle.elf_read.specs.FaultShown.{shown_elf}
use Rattle.elf_place.specs.FaultShown.{shown_place}
use Rattle.elf_reloc.specs.FaultShown.{shown_reloc}
use Rattle.eh_records.specs.FaultShown.{shown_record}
use Rattle.frame_functions.specs.declared.fault.AsmFault.{AsmFault}
use Rattle.frame_functions.specs.declared.fault.AsmFault.TheVariants as asm

-- a fault of the section of this number
abbrev pub in_section : (section : ℕ) → ShownFault → ShownFault
in_section section fault = shown_fault fault.group fault.number fault.name (section ∷ fault.values)

abbrev pub shown_asm : AsmFault → ShownFault
shown_asm (asm.Elf fault) = shown_elf fault
shown_asm (asm.Place fault) = shown_place fault
shown_asm (asm.Reloc section fault) = in_section section (shown_reloc fault)
shown_asm (asm.Record section fault) = in_section section (shown_record fault)
shown_asm (asm.Machine section fault) = in_section section (shown_machine fault)
shown_asm asm.NoMemory = not_shown group.Link

-- the fault of this input, as its line shows it
abbrev pub shown_of_input : Option ℕ → AsmFault → FaultShown
shown_of_input item fault = record { item = item; fault = shown_asm fault }
