-- What the line of a fault shows: its number and name, and the place where it has one. A fault of the ELF file, and one of its SFrame
-- section, are shown as such.
use Rattle.std.specs.Prelude.{ℕ, Bool, true, false, [], Option, codes}
use Rattle.sf_model.specs.declared.notice.Group.TheVariants as group
use Rattle.sf_model.specs.FaultShown.{FaultShown, ShownFault, shown_fault, fault_at, not_shown}
use Rattle.sf_decode.specs.FaultShown as decode
use Rattle.elf_read.specs.FaultShown.{shown_elf}
use Rattle.sf_modules.specs.declared.fault.ModuleFault.{ModuleFault}
use Rattle.sf_modules.specs.declared.fault.ModuleFault.TheVariants.{NoFileNote, FileNote, Elf, NoSection, Segments, NotMapped, Mapping, Ambiguous, Build, Section, Unread, NoMemory}

abbrev pub shown_module : ModuleFault → ShownFault
shown_module NoFileNote = shown_fault group.Module 1 (codes "NoFileNote") []
shown_module (FileNote place) = fault_at group.Module 2 (codes "FileNote") place
shown_module (Elf fault) = shown_elf fault
shown_module NoSection = shown_fault group.Module 4 (codes "NoSection") []
shown_module (Segments place) = fault_at group.Module 5 (codes "Segments") place
shown_module NotMapped = shown_fault group.Module 6 (codes "NotMapped") []
shown_module Mapping = shown_fault group.Module 7 (codes "Mapping") []
shown_module Ambiguous = shown_fault group.Module 8 (codes "Ambiguous") []
shown_module Build = shown_fault group.Module 9 (codes "Build") []
shown_module (Section fault) = decode.shown_section fault
shown_module (Unread address) = not_shown group.Module
shown_module NoMemory = not_shown group.Module

-- a fault of a process's modules, as its line shows it
abbrev pub shown_of_module : Option ℕ → ModuleFault → FaultShown
shown_of_module item fault = record { item = item; fault = shown_module fault }

-- the fault is no limit of a section, not a part of the core file that wasn't read, and not out of memory
abbrev pub is_module_refusal : ModuleFault → Bool
is_module_refusal (Section fault) = decode.is_refusal fault
is_module_refusal (Unread address) = false
is_module_refusal NoMemory = false
is_module_refusal fault = true
