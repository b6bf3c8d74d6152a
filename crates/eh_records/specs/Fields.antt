-- The fields inside a record, in their order, each by its bytes (LSB Core, "The .eh_frame section"; DWARF 5, sections 6.4.1 and
-- 7.6). A record's length word and the word after it are in Records.antt.
use Rattle.std.specs.Prelude.{◌≡◌, ◌≢◌, ◌⊎◌, ℕ, ℤ, ◌+◌, ◌%◌, ◌<◌, Bool, true, false, List, [], ◌∷◌, length, Option, Some, None, is_some}
use Rattle.std.specs.List.{Contains}
use Rattle.sf_bytes.specs.Cursor.{Cursor}
use Rattle.sf_bytes.specs.Leb.{Uleb, Sleb}
use Rattle.sf_bytes.specs.Standing.{Stands, Number, Bytes, Text}
use Rattle.sf_model.specs.declared.machine.Arch.{Arch}
use Rattle.sf_model.specs.declared.machine.Key.TheVariants as keys
use Rattle.eh_pointer.specs.Pointer.{pointer_width, usable_width, format_of, above_format}
use Rattle.eh_records.specs.Augmentation.{Form, AugmentationView, plain_augmentation, are_letters}
use Rattle.eh_records.specs.Cie.{Numbers, FullCieView, full_cie}
use Rattle.eh_records.specs.RawRecord.{RawRecordView}
use Rattle.eh_records.specs.Fde.{FdeView}
use Rattle.eh_records.specs.Section.{EntryView, Common, Frame}
use Rattle.eh_records.specs.Step.{PointerField}

-- ---- pointers
-- a pointer field of this width: its place, its width and the number in it
pub record PointerStands (width : ℕ) (field : PointerField) (from to : Cursor) : Type 0 where
  pub place : field.place ≡ from.place
  pub width_is : field.width ≡ width
  pub number : Stands (Number width) field.raw from to

-- a pointer that is passed: a field if the format fixes its width, or a LEB128 number
abbrev pub PassedStands : Option ℕ → (encoding : ℕ) → Option PointerField → (from to : Cursor) → Type 0
PassedStands (Some width) encoding None from to = ⊥
PassedStands (Some width) encoding (Some field) from to = PointerStands width field from to
PassedStands None encoding (Some field) from to = ⊥
PassedStands None encoding None from to =
    ((format_of encoding ≡ 1) × ((n : ℕ) × Stands Uleb n from to)) ⊎ ((format_of encoding ≡ 9) × ((z : ℤ) × Stands Sleb z from to))

-- ---- the augmentation
-- the string is empty, or a `z` (122) and letters, each of them known and none of them twice
abbrev pub StringStands : Arch → Option (List ℕ) → (from to : Cursor) → Type 0
StringStands arch None from to = Stands Text [] from to
StringStands arch (Some letters) from to = Stands Text (122 ∷ letters) from to × (are_letters arch [] letters ≡ true)

-- what a letter gives: the form of function pointers, the personality pointer, the encoding of the pointer to a language-specific
-- data area, that the frame is a signal frame's, or that return addresses are signed with key B
pub data LetterValue : Type 0 where
  pointers : Form → LetterValue
  personality : Option PointerField → LetterValue
  lsda : ℕ → LetterValue
  signal : LetterValue
  key_b : LetterValue

-- an encoding, and the pointer in it; 0xff means no pointer. Aligned pointers (application 5) are refused
pub record PersonalityStands (field : Option PointerField) (from to : Cursor) : Type 0 where
  pub encoding : ℕ
  pub after : Cursor
  pub encoding_stands : Stands (Number 1) encoding from after
  pub pointer_stands :
      ((encoding ≡ 255) × (field ≡ None) × (to ≡ after))
      ⊎ ((encoding ≢ 255) × (above_format encoding % 8 ≢ 5) × PassedStands (pointer_width encoding) encoding field after to)

-- what `R` (82), `P` (80), `L` (76), `S` (83) and `B` (66) have in the augmentation data
abbrev pub LetterValueStands : (letter : ℕ) → LetterValue → (from to : Cursor) → Type 0
LetterValueStands letter (pointers form) from to = (letter ≡ 82) × Stands (Number 1) form.encoding from to × (usable_width form.encoding ≡ Some form.width)
LetterValueStands letter (personality field) from to = (letter ≡ 80) × PersonalityStands field from to
LetterValueStands letter (lsda encoding) from to = (letter ≡ 76) × Stands (Number 1) encoding from to
LetterValueStands letter signal from to = (letter ≡ 83) × (to ≡ from)
LetterValueStands letter key_b from to = (letter ≡ 66) × (to ≡ from)

-- each letter has its part of the data, in the order of the letters; what is left over gives nothing
abbrev pub LetterValuesStand : (letters : List ℕ) → List LetterValue → Cursor → Type 0
LetterValuesStand [] [] from = Unit {0}
LetterValuesStand [] (s ∷ values) from = ⊥
LetterValuesStand (b ∷ letters) [] from = ⊥
LetterValuesStand (b ∷ letters) (s ∷ values) from = (to : Cursor) × LetterValueStands b s from to × LetterValuesStand letters values to

-- the augmentation with what one letter gives
abbrev pub with_letter_value : AugmentationView → LetterValue → AugmentationView
with_letter_value augmentation (pointers form) = record augmentation { pointers = form }
with_letter_value augmentation (personality field) = record augmentation { personality = field }
with_letter_value augmentation (lsda encoding) = record augmentation { lsda = Some encoding }
with_letter_value augmentation signal = record augmentation { signal = true }
with_letter_value augmentation key_b = record augmentation { key = keys.B }

-- the augmentation with what these letters give; a letter that isn't there changes nothing
abbrev pub with_letter_values : AugmentationView → List LetterValue → AugmentationView
with_letter_values augmentation [] = augmentation
with_letter_values augmentation (s ∷ values) = with_letter_values (with_letter_value augmentation s) values

-- the augmentation data: its length, and that many bytes
pub record DataStands (data_ : Cursor) (from to : Cursor) : Type 0 where
  pub len : ℕ
  pub after : Cursor
  pub len_stands : Stands Uleb len from after
  pub bytes_stand : Stands (Bytes len) data_.left after to
  pub place : data_.place ≡ after.place

-- the augmentation, from its data by the letters if there is a string; without one there is no data
abbrev pub AugmentationStands : Option (List ℕ) → AugmentationView → (from to : Cursor) → Type 0
AugmentationStands None augmentation from to = (augmentation ≡ plain_augmentation) × (to ≡ from)
AugmentationStands (Some letters) augmentation from to =
    (data_ : Cursor) × (values : List LetterValue) × DataStands data_ from to × LetterValuesStand letters values data_
    × (augmentation ≡ with_letter_values plain_augmentation values)

-- ---- common information entries
-- the return address register: a byte in version 1 (LSB Core), a LEB128 number in version 3 (DWARF 3, section 6.4.1)
abbrev pub ReturnAddressRegisterStands : (version register : ℕ) → (from to : Cursor) → Type 0
ReturnAddressRegisterStands version register from to = ((version ≡ 1) × Stands (Number 1) register from to) ⊎ ((version ≡ 3) × Stands Uleb register from to)

-- version, augmentation string, code and data alignment factors, return address register, augmentation data; the initial
-- instructions are the rest of the record
pub record CieStands (arch : Arch) (p : RawRecordView) (c : FullCieView) : Type 0 where
  pub version : ℕ
  pub letters : Option (List ℕ)
  pub numbers : Numbers
  pub augmentation : AugmentationView
  pub after_version : Cursor
  pub after_string : Cursor
  pub after_code_alignment_factor : Cursor
  pub after_data_alignment_factor : Cursor
  pub after_return_address_register : Cursor
  pub insns : Cursor
  pub version_stands : Stands (Number 1) version p.body after_version
  pub string_stands : StringStands arch letters after_version after_string
  pub code_alignment_factor_stands : Stands Uleb numbers.code_alignment_factor after_string after_code_alignment_factor
  pub data_alignment_factor_stands : Stands Sleb numbers.data_alignment_factor after_code_alignment_factor after_data_alignment_factor
  pub return_address_register_stands :
      ReturnAddressRegisterStands version numbers.return_address_register after_data_alignment_factor after_return_address_register
  pub augmentation_stands : AugmentationStands letters augmentation after_return_address_register insns
  pub entry : c ≡ full_cie p.place numbers (is_some letters) augmentation insns

-- ---- frame description entries
-- the pointer to the language-specific data area is at the front of the data, if its encoding fixes a width and the data is that
-- long
abbrev pub LsdaStands : (encoding : Option ℕ) → Option PointerField → Cursor → Type 0
LsdaStands encoding (Some field) at = (e : ℕ) × (width : ℕ) × (rest : Cursor) × (encoding ≡ Some e) × (pointer_width e ≡ Some width) × PointerStands width field at rest
LsdaStands encoding None at = (e width : ℕ) → encoding ≡ Some e → pointer_width e ≡ Some width → length at.left < width

-- there is augmentation data, and in it the pointer to the language-specific data area, if the common information entry has a string
abbrev pub FrameDataStands : (augmented : Bool) → (encoding : Option ℕ) → Option PointerField → (from to : Cursor) → Type 0
FrameDataStands true encoding field from to = (data_ : Cursor) × DataStands data_ from to × LsdaStands encoding field data_
FrameDataStands false encoding field from to = (field ≡ None) × (to ≡ from)

-- start, size, augmentation data; the instructions are the rest of the record
pub record FdeStands (full : FullCieView) (p : RawRecordView) (f : FdeView) : Type 0 where
  pub after_begin : Cursor
  pub after_range : Cursor
  pub begin_stands : PointerStands full.width f.begin p.body after_begin
  pub range_stands : PointerStands full.width f.range after_begin after_range
  pub data_stands : FrameDataStands full.augmented full.lsda f.lsda after_range f.insns
  pub place : f.place ≡ p.place
  pub cie : f.cie ≡ full.cie

-- one of the common information entries before the record is at the place that it names: as far before the word as the word's
-- number
pub record FrameStands (before : List FullCieView) (p : RawRecordView) (f : FdeView) : Type 0 where
  pub full : FullCieView
  pub among : Contains before full
  pub named : full.cie.place + p.id ≡ p.id_place
  pub fields : FdeStands full p f

-- ---- entries
-- a common information entry if the word after the length is 0, else a frame description entry
abbrev pub EntryStands : Arch → (before : List FullCieView) → RawRecordView → EntryView → Type 0
EntryStands arch before p (Common c) = (p.id ≡ 0) × CieStands arch p c
EntryStands arch before p (Frame f) = (p.id ≢ 0) × FrameStands before p f
