-- What a field holds once the fields that are written have their values.
use Rattle.std.specs.Prelude.{ℕ, ◌==◌, Bool, false, List, Option, Some, None, if◌then◌else◌}
use Rattle.std.specs.Option.{option_map}
use Rattle.elf_reloc.specs.declared.fix.RelocatedField.{RelocatedField}
use Rattle.elf_reloc.specs.Table.{width_of, low_bits}
use Rattle.elf_reloc.specs.Order.{first_at, place_of}

-- the low bits of a value that is written, where it is known
abbrev pub fix_bits : RelocatedField → Option ℕ
fix_bits f = option_map (low_bits f.range) f.value

-- the bits of a field of this width that holds a raw number, where one is written at its place
abbrev pub bits_by : Option RelocatedField → (width raw : ℕ) → Option ℕ
bits_by None width raw = Some raw
bits_by (Some f) width raw = if width_of f.range == width then fix_bits f else Some raw

-- the bits of a field with this place, width and raw number
abbrev pub bits_in : List RelocatedField → (place width raw : ℕ) → Option ℕ
bits_in fixes place width raw = bits_by (first_at place_of place fixes) width raw

-- whether what is written there is a place in a section that is dropped
abbrev pub dropped_by : Option RelocatedField → ℕ → Bool
dropped_by None width = false
dropped_by (Some f) width = if width_of f.range == width then f.dropped else false

-- whether what is written to a field with this place and width is a place in a section that is dropped
abbrev pub is_dropped_field : List RelocatedField → (place width : ℕ) → Bool
is_dropped_field fixes place width = dropped_by (first_at place_of place fixes) width
