-- Pointer encodings (LSB Core, "DWARF Exception Header Encoding"). The low four bits of an encoding are its format,
-- bits 4 to 6 its application, bit 7 marks an indirect pointer, and 0xff means no pointer.
use Rattle.std.specs.Prelude.{ℕ, ◌+◌, ◌-◌, ◌*◌, ◌/◌, ◌%◌, ◌^◌, ◌==◌, ◌||◌, nat_lt, if◌then◌else◌, Option, Some, None}

-- the format
abbrev pub format_of : ℕ → ℕ
format_of encoding = encoding % 16

-- all bits above the format: the application and the indirect bit
abbrev pub above_format : ℕ → ℕ
above_format encoding = encoding / 16

-- how many bytes a pointer of this encoding has, if the format fixes it: absptr, udata and sdata
unfoldable pub pointer_width : ℕ → Option ℕ
pointer_width encoding =
    if format_of encoding == 0 then Some 8
    else if format_of encoding == 2 || format_of encoding == 10 then Some 2
    else if format_of encoding == 3 || format_of encoding == 11 then Some 4
    else if format_of encoding == 4 || format_of encoding == 12 then Some 8
    else None

-- the width of an encoding that a function's pointer may have: absolute or from the field's own address (pcrel), and
-- not indirect
unfoldable pub usable_width : ℕ → Option ℕ
usable_width encoding = if above_format encoding == 0 || above_format encoding == 1 then pointer_width encoding else None

-- the bits of a width as a number modulo 2^64, extended with their sign
abbrev pub sign_extended : ℕ → ℕ → ℕ
sign_extended width bits = if nat_lt bits (2 ^ (8 * width - 1)) then bits else bits + (2 ^ 64 - 2 ^ (8 * width))

-- the bits as a number modulo 2^64: the formats sdata2, sdata4 and sdata8 are extended with their sign
unfoldable pub pointer_bits : ℕ → ℕ → ℕ
pointer_bits encoding bits =
    if format_of encoding == 10 then sign_extended 2 bits
    else if format_of encoding == 11 then sign_extended 4 bits
    else if format_of encoding == 12 then sign_extended 8 bits
    else bits

-- the pointer in a field that is at an address and holds these bits
unfoldable pub pointer_value : ℕ → ℕ → ℕ → ℕ
pointer_value encoding bits address = (pointer_bits encoding bits + (if above_format encoding == 1 then address else 0)) % 2 ^ 64
