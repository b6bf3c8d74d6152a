-- What the line of a refused core file shows: the fault's number and name, and the place in the file where it has one. A fault of the
-- ELF file is shown as such.
use Rattle.std.specs.Prelude.{ℕ, Bool, true, false, [], Option, codes}
use Rattle.sf_model.specs.declared.notice.Group.TheVariants as group
use Rattle.sf_model.specs.FaultShown.{FaultShown, ShownFault, shown_fault, fault_at}
use Rattle.elf_read.specs.FaultShown.{shown_elf}
use Rattle.core_notes.specs.declared.fault.CoreFault.{CoreFault}
use Rattle.core_notes.specs.declared.fault.CoreFault.TheVariants.{Elf, NotCore, Note, StatusSize, NoThread, TooManyThreads}

abbrev pub shown_core : CoreFault → ShownFault
shown_core (Elf fault) = shown_elf fault
shown_core NotCore = shown_fault group.Core 2 (codes "NotCore") []
shown_core (Note place) = fault_at group.Core 3 (codes "Note") place
shown_core (StatusSize place) = fault_at group.Core 4 (codes "StatusSize") place
shown_core NoThread = shown_fault group.Core 5 (codes "NoThread") []
shown_core TooManyThreads = shown_fault group.Core 6 (codes "TooManyThreads") []

-- a core file's fault, as its line shows it
abbrev pub shown_of_core : Option ℕ → CoreFault → FaultShown
shown_of_core item fault = record { item = item; fault = shown_core fault }

-- the file is malformed, and not just past a limit
abbrev pub is_core_refusal : CoreFault → Bool
is_core_refusal TooManyThreads = false
is_core_refusal fault = true
