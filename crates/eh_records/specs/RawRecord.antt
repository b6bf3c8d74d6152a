-- Splitting records off a section (LSB Core, "The .eh_frame section"): a length word, a word that names the common
-- information entry, and the rest of the record.
use Rattle.std.specs.Prelude.{◌≡◌, ℕ, ◌-◌, length, Option, Some, None, Result, Ok, Err, nat_lt, ◌==◌, if◌then◌else◌}
use Rattle.sf_bytes.specs.Cursor.{Cursor}
use Rattle.eh_records.specs.declared.raw_record.RawRecord.{RawRecord}
use Rattle.eh_records.specs.declared.reader.Reader.{Reader}
use Rattle.eh_records.specs.declared.fault.RecordFault.{RecordFault}
use Rattle.eh_records.specs.declared.fault.RecordFault.TheVariants.{Short, Extended, CiePointer}
use Rattle.eh_records.specs.Step.{Step, ◌>>=◌, number_field, part_field, reader_cursor}

-- a record: the place of its length word, the place of the word after that and its number, and the rest
pub record RawRecordView : Type 0 where
  pub place : ℕ
  pub id_place : ℕ
  pub id : ℕ
  pub body : Cursor

-- Inside the crate: the view of a record
abbrev pub raw_record_view : RawRecord → RawRecordView
raw_record_view raw = record { place = raw.place; id_place = raw.id_place; id = raw.id; body = reader_cursor raw.body }

-- a refused record carries its own place, whichever bytes it lacks
abbrev pub whole : {X : Type 0} → ℕ → Step X → Step X
whole place (Ok x) = Ok x
whole place (Err e) = Err (Short place)

-- the record of this length whose length word is at a place, and the cursor after the record
unfoldable pub record_of_length : ℕ → ℕ → Cursor → Step RawRecordView
record_of_length place len at = do
  body ← whole place (part_field len at)
  id ← number_field 4 body.0
  Ok (record { place = place; id_place = body.0.place; id = id.0; body = id.1 }, body.1)

-- the record of this length, or none if the length is 0
abbrev pub of_length : ℕ → ℕ → Cursor → Result (Option (RawRecordView × Cursor)) RecordFault
of_length place len at =
    if len == 0 then Ok None
    else if len == 4294967295 then Err (Extended place)
    else if nat_lt len 4 then Err (Short place)
    else (record_of_length place len at >>= λ p. Ok (Some p))

-- the next record, or none at the end and at a length word of 0
unfoldable pub raw_record_at : Cursor → Result (Option (RawRecordView × Cursor)) RecordFault
raw_record_at at =
    if length at.left == 0 then Ok None
    else (number_field 4 at >>= λ len. of_length at.place len.0 len.1)

-- the place of the common information entry that a record names
unfoldable pub named_place : RawRecordView → Result ℕ RecordFault
named_place p = if nat_lt p.id_place p.id then Err (CiePointer p.id_place) else Ok (p.id_place - p.id)

-- Inside the crate: what a call returned is the record, and the reader is what is left
abbrev pub RawRecordGives : Reader → Result (Option RawRecord) RecordFault → Result (Option (RawRecordView × Cursor)) RecordFault → Type 0
RawRecordGives new (Ok None) read = read ≡ Ok None
RawRecordGives new (Ok (Some raw)) read = read ≡ Ok (Some (raw_record_view raw, reader_cursor new))
RawRecordGives new (Err e) read = read ≡ Err e
