-- Fields of a record, read from left to right. A fault carries the place of the field's first byte.
use Rattle.std.specs.Prelude.{ℕ, ℤ, List, Result, Ok, Err}
use Rattle.sf_bytes.specs.declared.fault.ByteFault.{ByteFault}
use Rattle.sf_bytes.specs.declared.fault.ByteFault.TheVariants as byte_faults
use Rattle.sf_bytes.specs.declared.field.Field.{Field}
use Rattle.sf_bytes.specs.Cursor.{Cursor, Read, Reads, cursor, part_at, number_at}
use Rattle.sf_bytes.specs.Leb.{uleb_at, sleb_at}
use Rattle.sf_bytes.specs.Text.{text_at}
use Rattle.eh_records.specs.declared.fault.RecordFault.{RecordFault}
use Rattle.eh_records.specs.declared.fault.RecordFault.TheVariants.{Short, Leb}
use Rattle.eh_records.specs.declared.reader.Reader.{Reader}
pub use Rattle.sf_bytes.specs.Steps.{◌>>=◌}

-- a value and the cursor after it, or the first fault
abbrev pub Step : Type 0 → Type 0
Step X = Result (X × Cursor) RecordFault

-- the fault of a field at a place
abbrev pub fault_of : ℕ → ByteFault → RecordFault
fault_of place (byte_faults.Short p) = Short place
fault_of place (byte_faults.Leb p) = Leb place

-- the read of a field, with the field's place in its fault
abbrev pub at_field : {X : Type 0} → ℕ → Read X → Step X
at_field place (Ok x) = Ok x
at_field place (Err e) = Err (fault_of place e)

-- a number of n bytes
unfoldable pub number_field : ℕ → Cursor → Step ℕ
number_field n at = at_field at.place (number_at n at)

-- an unsigned LEB128 number
unfoldable pub uleb_field : Cursor → Step ℕ
uleb_field at = at_field at.place (uleb_at at)

-- a signed LEB128 number
unfoldable pub sleb_field : Cursor → Step ℤ
sleb_field at = at_field at.place (sleb_at at)

-- a text
unfoldable pub text_field : Cursor → Step (List ℕ)
text_field at = at_field at.place (text_at at)

-- n bytes as they are
unfoldable pub part_field : ℕ → Cursor → Step Cursor
part_field n at = at_field at.place (part_at n at)

-- a pointer field: its place, its width in bytes and the number in it
pub record PointerField : Type 0 where
  pub place : ℕ
  pub width : ℕ
  pub raw : ℕ

-- the view of a field
abbrev pub pointer_view : Field → PointerField
pointer_view f = record { place = f.place; width = f.width; raw = f.raw }

-- the pointer field of this width at the front
unfoldable pub pointer_field : ℕ → Cursor → Step PointerField
pointer_field width at = do
  raw ← number_field width at
  Ok (record { place = at.place; width = width; raw = raw.0 }, raw.1)

-- Inside the crate: what a call on a reader returned, seen through `view`, is what the step gives, and the reader is what the step leaves
abbrev pub StepGives : {X Y : Type 0} → (X → Y) → Reader → Result X RecordFault → Step Y → Type 0
StepGives view new result step = Reads view new.part result step

-- the cursor of a reader
abbrev pub reader_cursor : Reader → Cursor
reader_cursor r = cursor r.part
