-- Inside the crate. The next record, and the next record of a frame description entry (LSB Core, "The .eh_frame section").
use Rattle.std.specs.Prelude.{◌≡◌, ℕ, true, is_ok, List, [], ◌∷◌, Option, Some, None, Result, Ok}
use Rattle.sf_bytes.specs.Cursor.{Cursor}
use Rattle.sf_model.specs.declared.machine.Arch.{Arch}
use Rattle.eh_records.specs.declared.raw_record.RawRecord.{RawRecord}
use Rattle.eh_records.specs.RawRecord.{raw_record_at, raw_record_view}
use Rattle.eh_records.specs.declared.fault.RecordFault.{RecordFault}
use Rattle.eh_records.specs.declared.fde.Fde.{Fde}
use Rattle.eh_records.specs.Fde.{FdeView, fde_of, fde_view}
use Rattle.eh_records.specs.Section.{EntryView, frames}

-- none at the section's end, and nothing is passed; else the next record, which is passed
abbrev pub GivesRawRecord : Option RawRecord → (before after : Cursor) → Type 0
GivesRawRecord None before after = (raw_record_at before ≡ Ok None) × (after ≡ before)
GivesRawRecord (Some raw) before after = raw_record_at before ≡ Ok (Some (raw_record_view raw, after))

-- none if no frame description entry is left, before and after; else the record of the first one, and the others are left
abbrev pub GivesFrameRecord : Arch → List ℕ → Option RawRecord → List EntryView → List EntryView → Type 0
GivesFrameRecord arch section None before after = (frames before ≡ []) × (frames after ≡ [])
GivesFrameRecord arch section (Some raw) before after =
    (is_ok (fde_of arch section (raw_record_view raw)) ≡ true) × ((f : FdeView) → fde_of arch section (raw_record_view raw) ≡ Ok f → frames before ≡ f ∷ frames after)

-- the frame description entry that reading a record gives
abbrev pub GivesRead : Option Fde → Result FdeView RecordFault → Type 0
GivesRead None read = ⊥
GivesRead (Some f) read = read ≡ Ok (fde_view f)
