-- Numbers of a section's header and entries: four bytes, little-endian, and signed ones in two's complement.
use Rattle.std.specs.Prelude.{ℕ, ℤ, List}
use Rattle.sf_model.specs.Width.{unsigned_bytes, signed_bytes}

-- a number from 0 in four bytes
unfoldable pub word_bytes : ℕ → List ℕ
word_bytes n = unsigned_bytes 2 n

-- a number of 32 signed bits in four bytes
unfoldable pub signed_word_bytes : ℤ → List ℕ
signed_word_bytes z = signed_bytes 2 z
