-- What the line of a fault of placing shows: its number and name, and the section.
use Rattle.std.specs.Prelude.{codes}
use Rattle.sf_model.specs.declared.notice.Group.TheVariants as group
use Rattle.sf_model.specs.FaultShown.{ShownFault, fault_at, not_shown}
use Rattle.elf_place.specs.declared.fault.PlaceFault.{PlaceFault}
use Rattle.elf_place.specs.declared.fault.PlaceFault.TheVariants.{Align, AddressOverflow, NoBits, NoMemory}

abbrev pub shown_place : PlaceFault → ShownFault
shown_place (Align section) = fault_at group.Place 1 (codes "Align") section
shown_place (AddressOverflow section) = fault_at group.Place 2 (codes "AddressOverflow") section
shown_place (NoBits section) = fault_at group.Place 3 (codes "NoBits") section
shown_place NoMemory = not_shown group.Place
