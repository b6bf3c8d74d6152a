-- What the line of a refused ELF file shows: the fault's number and name, and the place in the file.
use Rattle.std.specs.Prelude.{ℕ, codes, Option}
use Rattle.sf_model.specs.declared.notice.Group.TheVariants as group
use Rattle.sf_model.specs.FaultShown.{FaultShown, ShownFault, fault_at}
use Rattle.elf_read.specs.declared.fault.ElfFault.{ElfFault}
use Rattle.elf_read.specs.declared.fault.ElfFault.TheVariants.{Short, NotElf, Class, Order, Version, Machine, Kind, EntrySize, Strings, OutOfFile, Compressed, SymbolIndex}

abbrev pub shown_elf : ElfFault → ShownFault
shown_elf (Short place) = fault_at group.Elf 1 (codes "Short") place
shown_elf (NotElf place) = fault_at group.Elf 2 (codes "NotElf") place
shown_elf (Class place) = fault_at group.Elf 3 (codes "Class") place
shown_elf (Order place) = fault_at group.Elf 4 (codes "Order") place
shown_elf (Version place) = fault_at group.Elf 5 (codes "Version") place
shown_elf (Machine place) = fault_at group.Elf 6 (codes "Machine") place
shown_elf (Kind place) = fault_at group.Elf 7 (codes "Kind") place
shown_elf (EntrySize place) = fault_at group.Elf 8 (codes "EntrySize") place
shown_elf (Strings place) = fault_at group.Elf 9 (codes "Strings") place
shown_elf (OutOfFile place) = fault_at group.Elf 10 (codes "OutOfFile") place
shown_elf (Compressed place) = fault_at group.Elf 11 (codes "Compressed") place
shown_elf (SymbolIndex place) = fault_at group.Elf 12 (codes "SymbolIndex") place

-- the fault of this item's file, as its line shows it
abbrev pub shown_of_elf : Option ℕ → ElfFault → FaultShown
shown_of_elf item fault = record { item = item; fault = shown_elf fault }
