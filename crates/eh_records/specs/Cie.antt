-- Common information entries (LSB Core, "The .eh_frame section").
use Rattle.std.specs.Prelude.{ℕ, ℤ, ◌==◌, ◌||◌, Bool, List, Option, Some, None, is_some, Result, Ok, Err, if◌then◌else◌}
use Rattle.std.specs.Option.{option_map}
use Rattle.sf_bytes.specs.Cursor.{Cursor, cursor}
use Rattle.sf_model.specs.declared.machine.Arch.{Arch}
use Rattle.sf_model.specs.declared.machine.Key.{Key}
use Rattle.eh_records.specs.declared.cie.Cie.{Cie}
use Rattle.eh_records.specs.declared.cie.FullCie.{FullCie}
use Rattle.eh_records.specs.declared.fault.RecordFault.{RecordFault}
use Rattle.eh_records.specs.declared.fault.RecordFault.TheVariants.{CieVersion}
use Rattle.eh_records.specs.Augmentation.{AugmentationView, plain_augmentation, letters_at, data_at, augmentation_by}
use Rattle.eh_records.specs.RawRecord.{RawRecordView}
use Rattle.eh_records.specs.Step.{Step, ◌>>=◌, PointerField, pointer_view, number_field, uleb_field, sleb_field}

-- an entry, apart from where its bytes are in memory
pub record CieView : Type 0 where
  pub place : ℕ
  pub code_alignment_factor : ℕ
  pub data_alignment_factor : ℤ
  pub return_address_register : ℕ
  pub encoding : ℕ
  pub signal : Bool
  pub key : Key
  pub personality : Option PointerField
  pub insns : Cursor

-- the view of an entry
abbrev pub cie_view : Cie → CieView
cie_view c = record {
  place = c.place;
  code_alignment_factor = c.code_alignment_factor;
  data_alignment_factor = c.data_alignment_factor;
  return_address_register = c.return_address_register;
  encoding = c.encoding;
  signal = c.signal;
  key = c.key;
  personality = option_map pointer_view c.personality;
  insns = cursor c.insns;
}

-- an entry with what only its frame description entries read
pub record FullCieView : Type 0 where
  pub cie : CieView
  pub width : ℕ
  pub augmented : Bool
  pub lsda : Option ℕ

-- Inside the crate: the view of an entry with what only its frame description entries read
abbrev pub full_cie_view : FullCie → FullCieView
full_cie_view s = record { cie = cie_view s.cie; width = s.width; augmented = s.augmented; lsda = s.lsda }

-- the version at the front, which has to be 1 or 3
unfoldable pub version_at : Cursor → Step ℕ
version_at at = number_field 1 at >>= λ version. if (version.0 == 1) || (version.0 == 3) then Ok version else Err (CieVersion at.place)

-- the return address register: a byte in version 1 (LSB Core, "The .eh_frame section"), a LEB128 number in version 3
-- (DWARF 3, section 6.4.1)
unfoldable pub return_address_register_at : ℕ → Cursor → Step ℕ
return_address_register_at version at = if version == 1 then number_field 1 at else uleb_field at

-- the augmentation that was read from the data, and the cursor after the data
abbrev pub passed_data : Cursor → Result AugmentationView RecordFault → Step AugmentationView
passed_data after (Ok augmentation) = Ok (augmentation, after)
passed_data after (Err e) = Err e

-- the augmentation from its data, or the plain one if there is no string
abbrev pub augmentation_in : Option (List ℕ) → Cursor → Step AugmentationView
augmentation_in None at = Ok (plain_augmentation, at)
augmentation_in (Some letters) at = data_at at >>= λ inner. passed_data inner.1 (augmentation_by letters plain_augmentation inner.0)

-- the augmentation at the front, if there is one
unfoldable pub augmentation_at : Option (List ℕ) → Cursor → Step AugmentationView
augmentation_at letters at = augmentation_in letters at

-- the numbers before the augmentation data
pub record Numbers : Type 0 where
  pub code_alignment_factor : ℕ
  pub data_alignment_factor : ℤ
  pub return_address_register : ℕ

-- an entry from its fields
abbrev pub full_cie : ℕ → Numbers → Bool → AugmentationView → Cursor → FullCieView
full_cie place numbers augmented augmentation insns = record {
  cie = record {
    place = place;
    code_alignment_factor = numbers.code_alignment_factor;
    data_alignment_factor = numbers.data_alignment_factor;
    return_address_register = numbers.return_address_register;
    encoding = augmentation.pointers.encoding;
    signal = augmentation.signal;
    key = augmentation.key;
    personality = augmentation.personality;
    insns = insns;
  };
  width = augmentation.pointers.width;
  augmented = augmented;
  lsda = augmentation.lsda;
}

-- the entry of a record, field by field; the initial instructions are the rest of the record
unfoldable pub cie_of : Arch → RawRecordView → Result FullCieView RecordFault
cie_of arch p = do
  version ← version_at p.body
  letters ← letters_at arch version.1
  code ← uleb_field letters.1
  data_ ← sleb_field code.1
  register ← return_address_register_at version.0 data_.1
  augmentation ← augmentation_at letters.0 register.1
  Ok (full_cie p.place (record { code_alignment_factor = code.0; data_alignment_factor = data_.0; return_address_register = register.0 }) (is_some letters.0) augmentation.0 augmentation.1)
