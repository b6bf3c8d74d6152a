-- Frame description entries (LSB Core, "The .eh_frame section").
use Rattle.std.specs.Prelude.{ℕ, List, drop, Option, Some, None, Result, Ok, Err, if◌then◌else◌}
use Rattle.std.specs.Option.{option_map}
use Rattle.sf_bytes.specs.Cursor.{Cursor, cursor}
use Rattle.sf_model.specs.declared.machine.Arch.{Arch}
use Rattle.eh_pointer.specs.Pointer.{pointer_width}
use Rattle.eh_records.specs.declared.fde.Fde.{Fde}
use Rattle.eh_records.specs.declared.fault.RecordFault.{RecordFault}
use Rattle.eh_records.specs.declared.fault.RecordFault.TheVariants.{CiePointer}
use Rattle.eh_records.specs.Augmentation.{data_at}
use Rattle.eh_records.specs.Cie.{CieView, cie_view, FullCieView, cie_of}
use Rattle.eh_records.specs.RawRecord.{RawRecordView, raw_record_at, named_place}
use Rattle.eh_records.specs.Step.{Step, ◌>>=◌, PointerField, pointer_view, pointer_field}

-- an entry, apart from where its bytes are in memory
pub record FdeView : Type 0 where
  pub place : ℕ
  pub cie : CieView
  pub begin : PointerField
  pub range : PointerField
  pub lsda : Option PointerField
  pub insns : Cursor

-- the view of an entry
abbrev pub fde_view : Fde → FdeView
fde_view f = record { place = f.place; cie = cie_view f.cie; begin = pointer_view f.begin; range = pointer_view f.range; lsda = option_map pointer_view f.lsda; insns = cursor f.insns }

-- a field, if it was read
abbrev pub read_there : Step PointerField → Option PointerField
read_there (Ok f) = Some f.0
read_there (Err e) = None

-- the field of this width at the front of the data, if there is a width and the data is that long
abbrev pub lsda_of_width : Option ℕ → Cursor → Option PointerField
lsda_of_width None at = None
lsda_of_width (Some width) at = read_there (pointer_field width at)

-- the field at the front of the data, if the encoding has a fixed width and the data is that long
abbrev pub lsda_in : Option ℕ → Cursor → Option PointerField
lsda_in None at = None
lsda_in (Some encoding) at = lsda_of_width (pointer_width encoding) at

-- the pointer to a language-specific data area, and the instructions after the augmentation data
unfoldable pub lsda_at : FullCieView → Cursor → Step (Option PointerField)
lsda_at full at = if full.augmented then (data_at at >>= λ inner. Ok (lsda_in full.lsda inner.0, inner.1)) else Ok (None, at)

-- the entry of a record whose common information entry is known
unfoldable pub entry_of : FullCieView → RawRecordView → Result FdeView RecordFault
entry_of full p = do
  begin ← pointer_field full.width p.body
  range ← pointer_field full.width begin.1
  lsda ← lsda_at full range.1
  Ok (record { place = p.place; cie = full.cie; begin = begin.0; range = range.0; lsda = lsda.0; insns = lsda.1 })

-- the common information entry of the record that was read at a place, or `CiePointer` if there is none
abbrev pub cie_in : Arch → ℕ → Option (RawRecordView × Cursor) → Result FullCieView RecordFault
cie_in arch place None = Err (CiePointer place)
cie_in arch place (Some p) = cie_of arch p.0

-- the common information entry at a place of the section
unfoldable pub cie_at_place : Arch → List ℕ → ℕ → Result FullCieView RecordFault
cie_at_place arch section place = raw_record_at (record { place = place; left = drop place section }) >>= cie_in arch place

-- the entry of a record of a section
unfoldable pub fde_of : Arch → List ℕ → RawRecordView → Result FdeView RecordFault
fde_of arch section p = named_place p >>= λ place. cie_at_place arch section place >>= λ full. entry_of full p
