-- Fields that hold a pointer: 2, 4 or 8 bytes (LSB Core, "DWARF Exception Header Encoding").
use Rattle.std.specs.Prelude.{ℕ, Bool, ◌==◌, ◌||◌}

-- whether a pointer field may have this width, in bytes
abbrev pub is_field_width : ℕ → Bool
is_field_width w = (w == 2) || (w == 4) || (w == 8)
