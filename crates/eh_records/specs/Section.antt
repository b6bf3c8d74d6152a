-- A whole section (LSB Core, "The .eh_frame section"): consecutive records, up to the section's end or to a length word
-- of 0. A frame description entry names a common information entry that comes before it.
use Rattle.std.specs.Prelude.{ℕ, zero, suc, ◌+◌, ◌-◌, ◌==◌, ◌&&◌, Bool, true, false, is_ok, List, [], ◌∷◌, ◌++◌, length, Option, Some, None, option_to_list, Result, Ok, Err, if◌then◌else◌}
use Rattle.std.specs.List.{list_any}
use Rattle.sf_bytes.specs.Cursor.{Cursor}
use Rattle.sf_model.specs.declared.machine.Arch.{Arch}
use Rattle.eh_records.specs.declared.fault.RecordFault.{RecordFault}
use Rattle.eh_records.specs.declared.fault.RecordFault.TheVariants.{CiePointer}
use Rattle.eh_records.specs.Cie.{FullCieView, cie_of}
use Rattle.eh_records.specs.RawRecord.{RawRecordView, raw_record_at, named_place}
use Rattle.eh_records.specs.Fde.{FdeView, fde_of}
use Rattle.eh_records.specs.Step.{◌>>=◌, PointerField}

-- a record, or the fault at which the list of records ends
abbrev pub SplitRecord : Type 0
SplitRecord = Result RawRecordView RecordFault

-- the first record and the cursor after it, none at the end, or a fault
abbrev pub Front : Type 0
Front = Result (Option (RawRecordView × Cursor)) RecordFault

-- how many bytes are left after the first record
abbrev pub bytes_after : Front → ℕ
bytes_after (Ok (Some (p, after))) = length after.left
bytes_after (Ok None) = 0
bytes_after (Err e) = 0

-- the first record and those after it
abbrev pub with_front : Front → List SplitRecord → List SplitRecord
with_front (Ok (Some (p, after))) others = Ok p ∷ others
with_front (Ok None) others = []
with_front (Err e) others = Err e ∷ []

-- the records after this many further bytes
unfoldable pub records_after : (skipped place : ℕ) → List ℕ → List SplitRecord
records_after skipped place [] = []
records_after (suc n) place (b ∷ bs) = records_after n (place + 1) bs
records_after zero place (b ∷ bs) =
    let first = raw_record_at (record { place = place; left = b ∷ bs }) in
    with_front first (records_after (length bs - bytes_after first) (place + 1) bs)

-- the records from a cursor on
abbrev pub records_from : Cursor → List SplitRecord
records_from at = records_after 0 at.place at.left

-- the records of a section
abbrev pub records_of : List ℕ → List SplitRecord
records_of section = records_from (record { place = 0; left = section })

-- an entry that was read
pub data EntryView : Type 0 where
  Common : FullCieView → EntryView
  Frame : FdeView → EntryView

-- the entry of a record, by the word after its length
unfoldable pub entry_here : Arch → List ℕ → RawRecordView → Result EntryView RecordFault
entry_here arch section p = if p.id == 0 then (cie_of arch p >>= λ c. Ok (Common c)) else (fde_of arch section p >>= λ f. Ok (Frame f))

-- a place, if it is among the places of the common information entries before the record
abbrev pub place_among : List ℕ → RawRecordView → ℕ → Result ℕ RecordFault
place_among cies p place = if list_any (λ q. q == place) cies then Ok place else Err (CiePointer p.id_place)

-- the place of the common information entry that a record names, or of the record itself if it is one
unfoldable pub entry_cie_place : List ℕ → RawRecordView → Result ℕ RecordFault
entry_cie_place cies p = if p.id == 0 then Ok p.place else (named_place p >>= place_among cies p)

-- the entry of a record, if these are the places of the common information entries before it
unfoldable pub entry_at : Arch → List ℕ → List ℕ → RawRecordView → Result EntryView RecordFault
entry_at arch section cies p = entry_cie_place cies p >>= λ _. entry_here arch section p

-- the places of the common information entries, with this record's if it is one
abbrev pub with_place : List ℕ → RawRecordView → List ℕ
with_place cies p = if p.id == 0 then cies ++ p.place ∷ [] else cies

-- the entries of records, or the first fault
unfoldable pub entries_in : Arch → List ℕ → List ℕ → List SplitRecord → Result (List EntryView) RecordFault
entries_in arch section cies [] = Ok []
entries_in arch section cies (Err e ∷ others) = Err e
entries_in arch section cies (Ok p ∷ others) =
    entry_at arch section cies p >>= λ e. entries_in arch section (with_place cies p) others >>= λ es. Ok (e ∷ es)

-- the entries of a section, or the first fault from the left
unfoldable pub entries_of : Arch → List ℕ → Result (List EntryView) RecordFault
entries_of arch section = entries_in arch section [] (records_of section)

-- the frame description entries among these
abbrev pub frames : List EntryView → List FdeView
frames [] = []
frames (Common c ∷ es) = frames es
frames (Frame f ∷ es) = f ∷ frames es

-- the pointer fields of an entry, from left to right
abbrev pub entry_fields : EntryView → List PointerField
entry_fields (Common c) = option_to_list c.cie.personality
entry_fields (Frame f) = f.begin ∷ f.range ∷ option_to_list f.lsda

-- the pointer fields of entries, from left to right
abbrev pub pointer_fields : List EntryView → List PointerField
pointer_fields [] = []
pointer_fields (e ∷ es) = entry_fields e ++ pointer_fields es

-- an entry and those after it, or no entry if it can't be read
abbrev pub entry_before : Result EntryView RecordFault → List EntryView → List EntryView
entry_before (Ok e) es = e ∷ es
entry_before (Err x) es = []

-- the entries of records up to the first that can't be read
unfoldable pub entries_before : Arch → List ℕ → List SplitRecord → List EntryView
entries_before arch section [] = []
entries_before arch section (Err e ∷ others) = []
entries_before arch section (Ok p ∷ others) = entry_before (entry_here arch section p) (entries_before arch section others)

-- ---- Inside the crate
-- each of these records is read
unfoldable pub are_read : Arch → List ℕ → List SplitRecord → Bool
are_read arch section [] = true
are_read arch section (Err e ∷ others) = false
are_read arch section (Ok p ∷ others) = is_ok (entry_here arch section p) && are_read arch section others

-- the fault of a section, if there is one
abbrev pub fault_if_any : {X : Type 0} → Result X RecordFault → Option RecordFault
fault_if_any (Ok x) = None
fault_if_any (Err e) = Some e
