-- What a section's records are, and what is left of them (LSB Core, "The .eh_frame section").
use Rattle.std.specs.Prelude.{IsTrue, All, ◌≡◌, ◌⊎◌, ℕ, List, Result, Ok, Err}
use Rattle.sf_model.specs.declared.machine.Arch.{Arch}
use Rattle.sf_model.specs.Function.{key_fits}
use Rattle.eh_records.specs.declared.fault.RecordFault.{RecordFault}
use Rattle.eh_records.specs.declared.fault.RecordFault.TheVariants.{NoMemory}
use Rattle.eh_records.specs.declared.iter.FdeIter.{FdeIter}
use Rattle.eh_records.specs.declared.records.Records.{Records}
use Rattle.eh_records.specs.Fde.{FdeView}
use Rattle.eh_records.specs.Section.{EntryView, records_from, records_of, entries_of, entries_before, frames}
use Rattle.eh_records.specs.Step.{reader_cursor}

-- the entries of a section that was parsed
abbrev pub entries : Records → List EntryView
entries r = entries_before r.arch r.bytes.now (records_of r.bytes.now)

-- the frame description entries that an iterator has left
abbrev pub frames_left : FdeIter → List FdeView
frames_left it = frames (entries_before it.arch it.section.now (records_from (reader_cursor it.rest)))

-- what parsing returned is what the section has: its entries or its first fault, unless memory ran out
abbrev pub IsParsed : Arch → List ℕ → Result Records RecordFault → Type 0
IsParsed arch section (Ok r) = entries_of arch section ≡ Ok (entries r)
IsParsed arch section (Err e) = (e ≡ NoMemory) ⊎ (entries_of arch section ≡ Err e)

-- the machine that the records were read for
abbrev pub arch_of : Records → Arch
arch_of r = r.arch

-- the section's bytes
abbrev pub bytes_of : Records → List ℕ
bytes_of r = r.bytes.now

-- every frame description entry has a key of the machine
abbrev pub KeysFit : Records → Type 0
KeysFit r = All (λ (f : FdeView). IsTrue (key_fits r.arch f.cie.key)) (frames (entries r))

-- the entries that were read are those of the whole section
abbrev pub IsWhole : Records → Type 0
IsWhole r = entries_of r.arch r.bytes.now ≡ Ok (entries r)
