-- The records of a section in the standard's words (LSB Core, "The .eh_frame section"): they are consecutive from the
-- first byte on, each a length word and that many bytes, and then comes nothing or a length word of 0.
use Rattle.std.specs.Prelude.{◌≡◌, ◌≢◌, ◌⊎◌, ℕ, ◌+◌, ◌≤◌, List, [], ◌∷◌, ◌++◌, length, take, drop, Ok}
use Rattle.sf_model.specs.declared.machine.Arch.{Arch}
use Rattle.byteorder.specs.Endian.{little_number}
use Rattle.sf_bytes.specs.Cursor.{Cursor, past}
use Rattle.eh_records.specs.RawRecord.{RawRecordView}
use Rattle.eh_records.specs.Cie.{FullCieView}
use Rattle.eh_records.specs.Fields.{EntryStands}
use Rattle.eh_records.specs.Section.{SplitRecord, EntryView, Common, Frame}

-- a record is at the front: its length, the word after that, and the bytes to its end
pub record Stands (at : Cursor) (p : RawRecordView) (after : Cursor) : Type 0 where
  pub len : ℕ
  pub word : little_number 4 (take 4 at.left) ≡ len
  pub enough : 4 ≤ len
  pub short : len ≢ 4294967295
  pub within : 4 + len ≤ length at.left
  pub raw_record_view : p ≡ record {
    place = at.place;
    id_place = at.place + 4;
    id = little_number 4 (take 4 (take len (drop 4 at.left)));
    body = record { place = at.place + 8; left = drop 4 (take len (drop 4 at.left)) };
  }
  pub behind : after ≡ past (4 + len) at

-- these are the records from a cursor on; what follows the last is empty or begins with a length word of 0
abbrev pub AreRecords : List RawRecordView → Cursor → Type 0
AreRecords [] at = (at.left ≡ []) ⊎ ((4 ≤ length at.left) × (little_number 4 (take 4 at.left) ≡ 0))
AreRecords (p ∷ ps) at = (after : Cursor) × Stands at p after × AreRecords ps after

-- these records, as the reader splits them off
abbrev pub all_split : List RawRecordView → List SplitRecord
all_split [] = []
all_split (p ∷ ps) = Ok p ∷ all_split ps

-- the first byte of a section
abbrev pub start : List ℕ → Cursor
start section = record { place = 0; left = section }

-- the common information entries before a record, with this entry if it is one
abbrev pub with_cie : List FullCieView → EntryView → List FullCieView
with_cie before (Common c) = before ++ c ∷ []
with_cie before (Frame f) = before

-- these are the entries of the records, field by field, if these common information entries come before them
abbrev pub AreEntriesOf : Arch → (before : List FullCieView) → List RawRecordView → List EntryView → Type 0
AreEntriesOf arch before [] [] = Unit {0}
AreEntriesOf arch before [] (e ∷ es) = ⊥
AreEntriesOf arch before (p ∷ ps) [] = ⊥
AreEntriesOf arch before (p ∷ ps) (e ∷ es) = EntryStands arch before p e × AreEntriesOf arch (with_cie before e) ps es
