-- A function's start and size (LSB Core, "The .eh_frame section" and "DWARF Exception Header Encoding"; GNU: the size is in the low four
-- bits of the encoding, its format, and counts from nothing).
use Rattle.std.specs.Prelude.{ℕ, ◌+◌, ◌%◌, ◌^◌, Option, Some, None, Result, Ok, Err, nat_lt, if◌then◌else◌}
use Rattle.eh_pointer.specs.Pointer.{pointer_bits, pointer_value}
use Rattle.eh_records.specs.declared.fault.RecordFault.{RecordFault}
use Rattle.eh_records.specs.declared.fault.RecordFault.TheVariants.{Unresolved, FunctionEnd}

-- Start and size, from the values of both fields if they have one. The start counts by the address of its own field, which is at this
-- place of the section, and has the shift added back. The start plus the size is at most 2^64.
abbrev pub span_of : (encoding place address shift : ℕ) → (begin range : Option ℕ) → Result (ℕ × ℕ) RecordFault
span_of encoding place address shift (Some begin) (Some range) =
    let start = (pointer_value encoding begin ((address + place) % 2 ^ 64) + shift) % 2 ^ 64 in
    let size = pointer_bits encoding range in
    if nat_lt (2 ^ 64) (start + size) then Err (FunctionEnd place) else Ok (start, size)
span_of encoding place address shift (Some begin) None = Err (Unresolved place)
span_of encoding place address shift None range = Err (Unresolved place)
