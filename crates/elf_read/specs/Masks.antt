-- Inside the crate. Pieces of a file by bits, 64 in each mask, from the lowest on.
use Rattle.std.specs.Prelude.{◌≡◌, ◌<◌, ◌*◌, ◌/◌, ◌%◌, ℕ, List, get_or, length}
use Rattle.std.specs.Int.{bit_at}
use Rattle.elf_read.specs.Number.{HasNoZero}

-- a piece has a bit, which is 0
abbrev pub IsClear : (masks : List ℕ) → (piece : ℕ) → Type 0
IsClear masks piece = (piece / 64 < length masks) × (bit_at (get_or masks (piece / 64) 0) (piece % 64) ≡ 0)

-- pieces whose bit is 0 have no zero byte
abbrev pub HasNoZeroWhereClear : (file : List ℕ) → (piece_len : ℕ) → (masks : List ℕ) → Type 0
HasNoZeroWhereClear file piece_len masks = (piece : ℕ) → IsClear masks piece → HasNoZero file (piece * piece_len) piece_len
