-- What the line of a fault of relocations shows: its number and name, and the relocation's number, or the section that has
-- relocations without addends.
use Rattle.std.specs.Prelude.{codes}
use Rattle.sf_model.specs.declared.notice.Group.TheVariants as group
use Rattle.sf_model.specs.FaultShown.{ShownFault, fault_at, not_shown}
use Rattle.elf_reloc.specs.declared.fault.RelocFault.{RelocFault}
use Rattle.elf_reloc.specs.declared.fault.RelocFault.TheVariants.{UnknownType, Range, Place, Twice, RelSection, OutOfSection, NoMemory}

abbrev pub shown_reloc : RelocFault → ShownFault
shown_reloc (UnknownType index) = fault_at group.Reloc 1 (codes "UnknownType") index
shown_reloc (Range index) = fault_at group.Reloc 2 (codes "Range") index
shown_reloc (Place index) = fault_at group.Reloc 3 (codes "Place") index
shown_reloc (Twice index) = fault_at group.Reloc 4 (codes "Twice") index
shown_reloc (RelSection index) = fault_at group.Reloc 5 (codes "RelSection") index
shown_reloc (OutOfSection index) = fault_at group.Reloc 6 (codes "OutOfSection") index
shown_reloc NoMemory = not_shown group.Reloc
