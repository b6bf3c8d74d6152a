-- Parts of the definitions of Refused.antt, by names of their own.
use Rattle.std.proofs.Common.{◌≡◌, ◌≢◌, ◌⊎◌, ℕ, ◌+◌, List}
use Rattle.std.specs.List.{Contains}
use Rattle.sf_bytes.specs.Cursor.{Cursor}
use Rattle.sf_model.specs.declared.machine.Arch.{Arch}
use Rattle.eh_records.specs.declared.fault.RecordFault.{RecordFault}
use Rattle.eh_records.specs.Cie.{FullCieView}
use Rattle.eh_records.specs.RawRecord.{RawRecordView}
use Rattle.eh_records.specs.Refused.{Lacks, LacksUleb, CieFails, FrameFails}

-- the return address register isn't there
abbrev pub ReturnAddressRegisterFails : (version : ℕ) → Cursor → RecordFault → Type 0
ReturnAddressRegisterFails version at e = ((version ≡ 1) × Lacks 1 at e) ⊎ ((version ≡ 3) × LacksUleb at e)

-- no common information entry before the record is at the place that it names
abbrev pub NamesNone : (before : List FullCieView) → RawRecordView → Type 0
NamesNone before p = (full : FullCieView) → Contains before full → full.cie.place + p.id ≢ p.id_place

-- a field of a record's entry isn't there: a common information entry if the word after the length is 0, else a frame description
-- entry
abbrev pub EntryFails : Arch → (before : List FullCieView) → RawRecordView → RecordFault → Type 0
EntryFails arch before p e = ((p.id ≡ 0) × CieFails arch p e) ⊎ ((p.id ≢ 0) × FrameFails before p e)
