-- Inside the crate. The width of function pointers (LSB Core, "DWARF Exception Header Encoding").
use Rattle.std.specs.Prelude.{ℕ, Bool, false, ◌==◌, Option, Some, None}
use Rattle.eh_pointer.specs.Pointer.{usable_width}

-- whether a width is fixed and is this one
abbrev pub is_width : Option ℕ → ℕ → Bool
is_width (Some bytes) width = bytes == width
is_width None width = false

-- whether a function's pointer may have this encoding, and then has this many bytes
abbrev pub is_usable_width : ℕ → ℕ → Bool
is_usable_width encoding width = is_width (usable_width encoding) width
