-- GNU SFrame specification, Version 2, function and frame row entry info words: the widths of a row's numbers, which are
-- little-endian and, where signed, in two's complement.
use Rattle.std.specs.Prelude.{◌-◌, ◌*◌, ◌^◌, ◌<◌, ◌≤◌, ℕ, ℤ, pos, negsuc, Bool, false, nat_lt, List, ◌≡◌, IsTrue}
use Rattle.std.specs.Int.{w32, cast_unsigned}
use Rattle.byteorder.specs.Endian.{little_bytes}

-- the widths 0, 1 and 2 are 1, 2 and 4 bytes: ADDR1, ADDR2, ADDR4 of a row's start, 1B, 2B, 4B of its offsets
abbrev pub width_len : (width : ℕ) → ℕ
width_len width = 2 ^ width

-- a number from 0 fits the unsigned bytes of a width
abbrev pub holds_unsigned : ℕ → (width : ℕ) → Bool
holds_unsigned n width = nat_lt n (2 ^ (8 * width_len width))

-- a number fits the signed bytes of a width: n or -(n + 1), with n below half the number of values of those bytes
abbrev pub holds_signed : ℤ → (width : ℕ) → Bool
holds_signed (pos n) width = nat_lt n (2 ^ (8 * width_len width - 1))
holds_signed (negsuc n) width = nat_lt n (2 ^ (8 * width_len width - 1))

-- a number from 0 in the bytes of a width that holds it
abbrev pub unsigned_bytes : (width : ℕ) → ℕ → List ℕ
unsigned_bytes width n = little_bytes (width_len width) n

-- a number of 32 signed bits in the bytes of a width that holds it
abbrev pub signed_bytes : (width : ℕ) → ℤ → List ℕ
signed_bytes width z = little_bytes (width_len width) (cast_unsigned w32 z)

-- a width from 0 to 2 that holds what it is asked to hold
pub record IsWidth (holds : ℕ → Bool) (width : ℕ) : Type 0 where
  pub there_is : width ≤ 2
  pub held : IsTrue (holds width)

-- no smaller width holds what it is asked to hold
abbrev pub NoneLess : (holds : ℕ → Bool) → (width : ℕ) → Type 0
NoneLess holds width = (smaller : ℕ) → smaller < width → holds smaller ≡ false
