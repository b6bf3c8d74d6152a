-- A name as a line prints it: the bytes of control characters in digits, every other character as it is.
use Rattle.std.specs.Prelude.{◌++◌, ◌/◌, ◌%◌, ℕ, false, List, [], ◌∷◌, codes, if◌then◌else◌}
use Rattle.std.specs.Char.{encode_utf8, is_control}
use Rattle.std.specs.Fmt.{digit_glyph}
use Rattle.std.specs.List.{flat_map}
use Rattle.std.specs.Str.{chars}

-- a byte as `\x` and two lower-case digits of base 16
abbrev pub byte_text : ℕ → List ℕ
byte_text byte = codes "\\x" ++ digit_glyph false (byte / 16) ∷ digit_glyph false (byte % 16) ∷ []

-- each byte of a control character (U+0000 to U+001F, U+007F to U+009F) in digits; any other character as it is
unfoldable pub shown_character : ℕ → List ℕ
shown_character c = if is_control c then flat_map byte_text (encode_utf8 c) else encode_utf8 c

-- the characters of the name, in order
unfoldable pub shown_name : List ℕ → List ℕ
shown_name name = flat_map shown_character (chars name)
