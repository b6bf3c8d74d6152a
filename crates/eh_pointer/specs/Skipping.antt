-- Passing a pointer whose value isn't used, such as a personality routine's (LSB Core, "DWARF Exception Header
-- Encoding"): every known format, and every application but aligned (0x50).
use Rattle.std.specs.Prelude.{◌≡◌, ℕ, ◌%◌, ◌==◌, if◌then◌else◌, Option, Some, None, Result, Ok, Err}
use Rattle.sf_bytes.specs.declared.part.Part.{Part}
use Rattle.sf_bytes.specs.declared.fault.ByteFault.{ByteFault}
use Rattle.sf_bytes.specs.declared.fault.ByteFault.TheVariants as byte_faults
use Rattle.sf_bytes.specs.Cursor.{Cursor, Read, cursor, part_at}
use Rattle.sf_bytes.specs.Leb.{uleb_at, sleb_at}
use Rattle.eh_pointer.specs.declared.fault.PointerFault.{PointerFault}
use Rattle.eh_pointer.specs.declared.fault.PointerFault.TheVariants.{Encoding, Short, Leb}
use Rattle.eh_pointer.specs.Pointer.{pointer_width, format_of, above_format}

-- a fault of a read as a fault of the pointer
abbrev pub as_pointer_fault : ByteFault → PointerFault
as_pointer_fault (byte_faults.Short place) = Short
as_pointer_fault (byte_faults.Leb place) = Leb

-- the cursor after what a read gives
abbrev pub passed : {X : Type 0} → Read X → Result Cursor PointerFault
passed (Ok x) = Ok x.1
passed (Err e) = Err (as_pointer_fault e)

-- a pointer of a fixed width, or a LEB128 number
abbrev pub passed_width : Option ℕ → ℕ → Cursor → Result Cursor PointerFault
passed_width (Some width) encoding at = passed (part_at width at)
passed_width None encoding at =
    if format_of encoding == 1 then passed (uleb_at at)
    else if format_of encoding == 9 then passed (sleb_at at)
    else Err Encoding

-- the cursor after the pointer, or the fault
unfoldable pub pointer_passed : ℕ → Cursor → Result Cursor PointerFault
pointer_passed encoding at = if above_format encoding % 8 == 5 then Err Encoding else passed_width (pointer_width encoding) encoding at

-- what a call returned is this, and the part is what is left; on a fault the part is unchanged
abbrev pub Skips : Part → Part → Result (Unit {0}) PointerFault → Result Cursor PointerFault → Type 0
Skips old new (Ok x) read = read ≡ Ok (cursor new)
Skips old new (Err e) read = (read ≡ Err e) × (cursor new ≡ cursor old)
