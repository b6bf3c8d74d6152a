-- What the line of a fault of records shows: its number and name, and the place in the section.
use Rattle.std.specs.Prelude.{codes}
use Rattle.sf_model.specs.declared.notice.Group.TheVariants as group
use Rattle.sf_model.specs.FaultShown.{ShownFault, fault_at, not_shown}
use Rattle.eh_records.specs.declared.fault.RecordFault.{RecordFault}
use Rattle.eh_records.specs.declared.fault.RecordFault.TheVariants.{Short, Extended, CieVersion, Augmentation, CiePointer, Encoding, Leb, Unresolved, FunctionEnd, NoMemory}

abbrev pub shown_record : RecordFault → ShownFault
shown_record (Short place) = fault_at group.Record 1 (codes "Short") place
shown_record (Extended place) = fault_at group.Record 2 (codes "Extended") place
shown_record (CieVersion place) = fault_at group.Record 3 (codes "CieVersion") place
shown_record (Augmentation place) = fault_at group.Record 4 (codes "Augmentation") place
shown_record (CiePointer place) = fault_at group.Record 5 (codes "CiePointer") place
shown_record (Encoding place) = fault_at group.Record 6 (codes "Encoding") place
shown_record (Leb place) = fault_at group.Record 7 (codes "Leb") place
shown_record (Unresolved place) = fault_at group.Record 8 (codes "Unresolved") place
shown_record (FunctionEnd place) = fault_at group.Record 9 (codes "FunctionEnd") place
shown_record NoMemory = not_shown group.Record
