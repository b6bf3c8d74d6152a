-- Numbers and bytes at places (ELF64 gABI, "Data Representation"): little-endian, without sign.
use Rattle.std.specs.Prelude.{◌≡◌, ℕ, ◌+◌, ◌*◌, ◌/◌, ◌%◌, ◌==◌, ◌≤◌, Bool, not, List, length, take, take_while, drop, is_some, nat_lt, nat_le, if◌then◌else◌}
use Rattle.std.specs.List.{position, position_or_len}
use Rattle.byteorder.specs.Endian.{little_number}

-- the number in the first `width` bytes, or 0 if there are fewer
unfoldable pub front_number : ℕ → List ℕ → ℕ
front_number width bytes = if nat_lt (length bytes) width then 0 else little_number width bytes

-- the number in the field of `width` bytes at a place, or 0 if the bytes end before that
abbrev pub field_at : ℕ → ℕ → List ℕ → ℕ
field_at width place bytes = front_number width (drop place bytes)

-- `size` bytes from a place on, or those that are there
abbrev pub window : ℕ → ℕ → List ℕ → List ℕ
window place size bytes = take size (drop place bytes)

-- the part is what the bytes have at this place
abbrev pub LiesAt : ℕ → List ℕ → List ℕ → Type 0
LiesAt place part bytes = part ≡ window place (length part) bytes

-- whether `count` entries of `entry` bytes from a place on lie in `len` bytes
abbrev pub lies_in : (len place count entry : ℕ) → Bool
lies_in len place count entry = nat_le (place + entry * count) len

-- whether a flag that is a power of two is set
abbrev pub has_flag : ℕ → ℕ → Bool
has_flag flags flag = flags / flag % 2 == 1

-- the text that begins at a place of a string table (ELF64 gABI, "String Table"): the bytes before the first zero byte, or all of them
unfoldable pub text_in : ℕ → List ℕ → List ℕ
text_in place table = take_while (λ b. not (b == 0)) (drop place table)

-- whether a text begins at that place of the table and ends there with a zero byte
unfoldable pub has_text : ℕ → List ℕ → Bool
has_text place table = is_some (position (λ b. b == 0) (drop place table))

-- ---- Inside the crate: what the code finds of texts and of zero bytes
-- texts begin at exactly the places below a number
abbrev pub EndsTexts : List ℕ → ℕ → Type 0
EndsTexts table end = (place : ℕ) → has_text place table ≡ nat_lt place end

-- the place of the first zero byte from a place on, or else the first place past the bytes
abbrev pub zero_from : List ℕ → ℕ → ℕ
zero_from bytes place = place + position_or_len (λ b. b == 0) (drop place bytes)

-- `len` bytes from a place on are there, and none of them is zero
abbrev pub HasNoZero : List ℕ → ℕ → ℕ → Type 0
HasNoZero bytes place len = place + len ≤ zero_from bytes place
