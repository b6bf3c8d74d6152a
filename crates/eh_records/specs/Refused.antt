-- The first fault of a section's records (LSB Core, "The .eh_frame section"): records with their entries come before it, and the
-- next record can't be split off, or one of its fields isn't there. All fields before that field are there, and it determines the
-- fault.
use Rattle.std.specs.Prelude.{◌≡◌, ◌≢◌, ◌⊎◌, ℕ, ℤ, ◌+◌, ◌%◌, ◌<◌, ◌≤◌, true, false, List, [], ◌∷◌, length, take, Option, Some, None, Result, Ok, Err}
use Rattle.std.specs.List.{All, Contains}
use Rattle.byteorder.specs.Endian.{little_number}
use Rattle.sf_bytes.specs.Cursor.{Cursor}
use Rattle.sf_bytes.specs.Leb.{Uleb, Sleb}
use Rattle.sf_bytes.specs.Standing.{Stands as FieldStands, Number, Text}
use Rattle.sf_model.specs.declared.machine.Arch.{Arch}
use Rattle.eh_pointer.specs.Pointer.{pointer_width, usable_width, format_of, above_format}
use Rattle.eh_records.specs.declared.fault.RecordFault.{RecordFault}
use Rattle.eh_records.specs.declared.fault.RecordFault.TheVariants.{Short, Extended, CieVersion, Augmentation, Encoding, CiePointer, Leb, Unresolved, FunctionEnd, NoMemory}
use Rattle.eh_records.specs.Augmentation.{are_letters}
use Rattle.eh_records.specs.Cie.{FullCieView}
use Rattle.eh_records.specs.RawRecord.{RawRecordView}
use Rattle.eh_records.specs.Records.{Stands, AreRecords, AreEntriesOf, with_cie, start}
use Rattle.eh_records.specs.Fields.{PointerStands, StringStands, LetterValue, LetterValueStands, ReturnAddressRegisterStands, DataStands, EntryStands}
use Rattle.eh_records.specs.Section.{EntryView}
use Rattle.eh_records.specs.Step.{PointerField}

-- ---- a field that isn't there; each fault has the place of the field's first byte
-- fewer than n bytes are left
abbrev pub Lacks : (n : ℕ) → Cursor → RecordFault → Type 0
Lacks n at e = (length at.left < n) × (e ≡ Short at.place)

-- the fault of a LEB128 number that isn't there: Short if fewer than ten bytes are left and each continues the number, as it is 128
-- or more; else Leb
abbrev pub IsLebFault : Cursor → RecordFault → Type 0
IsLebFault at e =
    ((length at.left < 10) × All (λ (b : ℕ). 128 ≤ b) at.left × (e ≡ Short at.place))
    ⊎ ((All (λ (b : ℕ). 128 ≤ b) at.left → 10 ≤ length at.left) × (e ≡ Leb at.place))

-- no unsigned LEB128 number is there
abbrev pub LacksUleb : Cursor → RecordFault → Type 0
LacksUleb at e = ((v : ℕ) (to : Cursor) → FieldStands Uleb v at to → ⊥) × IsLebFault at e

-- no signed LEB128 number is there
abbrev pub LacksSleb : Cursor → RecordFault → Type 0
LacksSleb at e = ((z : ℤ) (to : Cursor) → FieldStands Sleb z at to → ⊥) × IsLebFault at e

-- ---- records
-- the length word isn't all there, or it is that of the 64-bit form, less than the four bytes of the word after it, or more than
-- what is left
abbrev pub RecordFails : Cursor → RecordFault → Type 0
RecordFails at e =
    (at.left ≢ []) × (
    Lacks 4 at e
    ⊎ ((4 ≤ length at.left) × (
    ((little_number 4 (take 4 at.left) ≡ 4294967295) × (e ≡ Extended at.place))
    ⊎ ((little_number 4 (take 4 at.left) ≢ 0) × (little_number 4 (take 4 at.left) ≢ 4294967295)
    × ((little_number 4 (take 4 at.left) < 4) ⊎ (length at.left < 4 + little_number 4 (take 4 at.left)))
    × (e ≡ Short at.place))
    ))
    )

-- ---- common information entries
-- the length isn't there, or is more than what is left
abbrev pub DataFails : Cursor → RecordFault → Type 0
DataFails at e = LacksUleb at e ⊎ ((len : ℕ) × (after : Cursor) × FieldStands Uleb len at after × Lacks len after e)

-- no text is there, or one that is neither empty nor a `z` (122) and known letters, none of them twice
abbrev pub StringFails : Arch → Cursor → RecordFault → Type 0
StringFails arch at e =
    (((word : List ℕ) (to : Cursor) → FieldStands Text word at to → ⊥) × (e ≡ Short at.place))
    ⊎ ((text : List ℕ) × (after : Cursor) × FieldStands Text text at after
    × (text ≢ []) × ((letters : List ℕ) → text ≡ 122 ∷ letters → are_letters arch [] letters ≡ false) × (e ≡ Augmentation at.place))

-- the encoding isn't there, or is one that function pointers can't have
abbrev pub FormFails : Cursor → RecordFault → Type 0
FormFails at e = Lacks 1 at e ⊎ ((encoding : ℕ) × (after : Cursor) × FieldStands (Number 1) encoding at after × (usable_width encoding ≡ None) × (e ≡ Encoding at.place))

-- no pointer of this format is there: the field isn't all there, the LEB128 number isn't there, or the format is unknown
abbrev pub PassedFails : Option ℕ → (encoding encoding_place : ℕ) → Cursor → RecordFault → Type 0
PassedFails (Some width) encoding encoding_place at e = Lacks width at e
PassedFails None encoding encoding_place at e =
    ((format_of encoding ≡ 1) × LacksUleb at e)
    ⊎ (((format_of encoding ≡ 9) × LacksSleb at e)
    ⊎ ((format_of encoding ≢ 1) × (format_of encoding ≢ 9) × (e ≡ Encoding encoding_place)))

-- the encoding of the personality pointer isn't there or is aligned, or no pointer of its format is there
abbrev pub PersonalityFails : Cursor → RecordFault → Type 0
PersonalityFails at e =
    Lacks 1 at e
    ⊎ ((encoding : ℕ) × (after : Cursor) × FieldStands (Number 1) encoding at after × (encoding ≢ 255)
    × (((above_format encoding % 8 ≡ 5) × (e ≡ Encoding at.place))
    ⊎ ((above_format encoding % 8 ≢ 5) × PassedFails (pointer_width encoding) encoding at.place after e)))

-- the part of a letter in the data isn't there
abbrev pub LetterFails : (letter : ℕ) → Cursor → RecordFault → Type 0
LetterFails letter at e = ((letter ≡ 82) × FormFails at e) ⊎ (((letter ≡ 80) × PersonalityFails at e) ⊎ ((letter ≡ 76) × Lacks 1 at e))

-- the first letter whose part of the data isn't there
abbrev pub LettersFail : (letters : List ℕ) → Cursor → RecordFault → Type 0
LettersFail [] at e = ⊥
LettersFail (b ∷ letters) at e = LetterFails b at e ⊎ ((s : LetterValue) × (to : Cursor) × LetterValueStands b s at to × LettersFail letters to e)

-- the augmentation data isn't there, or a letter's part of it isn't
abbrev pub AugmentationFails : Option (List ℕ) → Cursor → RecordFault → Type 0
AugmentationFails None at e = ⊥
AugmentationFails (Some letters) at e = DataFails at e ⊎ ((data_ : Cursor) × (to : Cursor) × DataStands data_ at to × LettersFail letters data_ e)

-- the first of the fields that isn't there: version, augmentation string, code and data alignment factors, return address register, augmentation data
pub data CieFails (arch : Arch) (p : RawRecordView) (e : RecordFault) : Type 0 where
  no_version : Lacks 1 p.body e → CieFails arch p e
  other_version : (version : ℕ) (after : Cursor) → FieldStands (Number 1) version p.body after → version ≢ 1 → version ≢ 3 → e ≡ CieVersion p.body.place → CieFails arch p e
  no_string : (version : ℕ) (a1 : Cursor) → FieldStands (Number 1) version p.body a1 → (version ≡ 1) ⊎ (version ≡ 3) → StringFails arch a1 e → CieFails arch p e
  no_code_alignment_factor : (version : ℕ) (letters : Option (List ℕ)) (a1 a2 : Cursor) → FieldStands (Number 1) version p.body a1 → (version ≡ 1) ⊎ (version ≡ 3) → StringStands arch letters a1 a2 → LacksUleb a2 e → CieFails arch p e
  no_data_alignment_factor : (version code : ℕ) (letters : Option (List ℕ)) (a1 a2 a3 : Cursor) → FieldStands (Number 1) version p.body a1 → (version ≡ 1) ⊎ (version ≡ 3) → StringStands arch letters a1 a2 → FieldStands Uleb code a2 a3
      → LacksSleb a3 e → CieFails arch p e
  no_return_address_register : (version code : ℕ) (data_ : ℤ) (letters : Option (List ℕ)) (a1 a2 a3 a4 : Cursor) → FieldStands (Number 1) version p.body a1 → (version ≡ 1) ⊎ (version ≡ 3) → StringStands arch letters a1 a2
      → FieldStands Uleb code a2 a3 → FieldStands Sleb data_ a3 a4 → ((version ≡ 1) × Lacks 1 a4 e) ⊎ ((version ≡ 3) × LacksUleb a4 e) → CieFails arch p e
  no_data : (version code register : ℕ) (data_ : ℤ) (letters : Option (List ℕ)) (a1 a2 a3 a4 a5 : Cursor) → FieldStands (Number 1) version p.body a1 → (version ≡ 1) ⊎ (version ≡ 3) → StringStands arch letters a1 a2
      → FieldStands Uleb code a2 a3 → FieldStands Sleb data_ a3 a4 → ReturnAddressRegisterStands version register a4 a5 → AugmentationFails letters a5 e → CieFails arch p e

-- ---- frame description entries
-- the first of the fields that isn't there: start, size, augmentation data
abbrev pub FdeFails : FullCieView → RawRecordView → RecordFault → Type 0
FdeFails full p e =
    Lacks full.width p.body e
    ⊎ ((begin : PointerField) × (a1 : Cursor) × PointerStands full.width begin p.body a1
    × (Lacks full.width a1 e
    ⊎ ((range : PointerField) × (a2 : Cursor) × PointerStands full.width range a1 a2 × (full.augmented ≡ true) × DataFails a2 e)))

-- no common information entry before the record is at the place that it names, or a field isn't there
abbrev pub FrameFails : (before : List FullCieView) → RawRecordView → RecordFault → Type 0
FrameFails before p e =
    (((full : FullCieView) → Contains before full → full.cie.place + p.id ≢ p.id_place) × (e ≡ CiePointer p.id_place))
    ⊎ ((full : FullCieView) × Contains before full × (full.cie.place + p.id ≡ p.id_place) × FdeFails full p e)

-- ---- sections
-- Records and their entries from a cursor on, and then the fault of the next record: it isn't all there, or a field of its entry isn't. It
-- is a common information entry if the word after the length is 0, else a frame description entry.
abbrev pub FailsFrom : Arch → (before : List FullCieView) → List RawRecordView → List EntryView → Cursor → RecordFault → Type 0
FailsFrom arch before [] [] at e = RecordFails at e ⊎ ((p : RawRecordView) × (after : Cursor) × Stands at p after
    × (((p.id ≡ 0) × CieFails arch p e) ⊎ ((p.id ≢ 0) × FrameFails before p e)))
FailsFrom arch before [] (v ∷ vs) at e = ⊥
FailsFrom arch before (p ∷ ps) [] at e = ⊥
FailsFrom arch before (p ∷ ps) (v ∷ vs) at e = (after : Cursor) × Stands at p after × EntryStands arch before p v × FailsFrom arch (with_cie before v) ps vs after e

-- reading a section's records gives this: the entries of all its records; or its first fault, and the entries before it
abbrev pub AreReadAs : Arch → (section : List ℕ) → Result (List EntryView) RecordFault → Type 0
AreReadAs arch section (Ok es) = (ps : List RawRecordView) × AreRecords ps (start section) × AreEntriesOf arch [] ps es
AreReadAs arch section (Err e) = (ps : List RawRecordView) × (es : List EntryView) × FailsFrom arch [] ps es (start section) e

-- ---- which faults there are
-- all faults but those of a function's values and out of memory
abbrev pub IsOfRecords : RecordFault → Type 0
IsOfRecords (Unresolved place) = ⊥
IsOfRecords (FunctionEnd place) = ⊥
IsOfRecords NoMemory = ⊥
IsOfRecords e = Unit {0}
