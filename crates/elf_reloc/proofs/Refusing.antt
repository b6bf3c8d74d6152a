-- How a refusal comes about.
use Rattle.std.proofs.Common.{List, Result, inl, inr}
use Rattle.elf_reloc.specs.declared.fault.RelocFault.{RelocFault}
use Rattle.elf_reloc.specs.declared.fault.RelocFault.TheVariants.{UnknownType, Range, Place, Twice, RelSection, OutOfSection, NoMemory}
use Rattle.elf_reloc.specs.declared.fix.RelocatedField.{RelocatedField}
use Rattle.elf_reloc.specs.Reading.{Fails}
use Rattle.elf_reloc.specs.Views.{Overlaps, IsFirstFault}

pub by_reading : (e : RelocFault) (given : Result (List RelocatedField) RelocFault) → Fails e given → IsFirstFault e given
by_reading (UnknownType k) given h = inl h
by_reading (Range k) given h = inl h
by_reading (Place k) given h = inl h
by_reading (Twice k) given h = inl h
by_reading (RelSection k) given h = inl h
by_reading (OutOfSection k) given h = inl h
by_reading NoMemory given h = tt

pub by_overlap : (e : RelocFault) (given : Result (List RelocatedField) RelocFault) → Overlaps given e → IsFirstFault e given
by_overlap (UnknownType k) given h = inr h
by_overlap (Range k) given h = inr h
by_overlap (Place k) given h = inr h
by_overlap (Twice k) given h = inr h
by_overlap (RelSection k) given h = inr h
by_overlap (OutOfSection k) given h = inr h
by_overlap NoMemory given h = tt
