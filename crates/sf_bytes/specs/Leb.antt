-- LEB128 numbers (DWARF 5, section 7.6). A number is a run of bytes: each gives its low seven bits, the
-- least significant first, and the first byte below 128 ends the run. A run has at most ten bytes;
-- padding is allowed. An unsigned number is below 2^64, a signed one takes its sign from bit 6 of the
-- last byte and fits 64 bits.
use Rattle.std.specs.Prelude.{◌≡◌, ℕ, ℤ, pos, zero, suc, ◌+◌, ◌*◌, ◌%◌, ◌^◌, ◌<◌, ◌≤◌, ◌-ℤ◌, Bool, false, ◌&&◌, List, [], ◌∷◌, length, take, Result, Ok, Err, nat_lt, int_lt, if◌then◌else◌, FitsSigned}
use Rattle.std.specs.Int.{w64}
use Rattle.sf_bytes.specs.declared.fault.ByteFault.{ByteFault}
use Rattle.sf_bytes.specs.declared.fault.ByteFault.TheVariants.{Short, Leb}
use Rattle.sf_bytes.specs.Cursor.{Cursor, Read, past, ◌>>=◌}

-- the sum of the low seven bits times the powers of 128
unfoldable pub leb_sum : List ℕ → ℕ
leb_sum [] = 0
leb_sum (b ∷ bs) = b % 128 + 128 * leb_sum bs

-- whether the sign, bit 6 of the last byte, is set
unfoldable pub is_negative : List ℕ → Bool
is_negative [] = false
is_negative (b ∷ []) = nat_lt 63 (b % 128)
is_negative (b ∷ c ∷ bs) = is_negative (c ∷ bs)

-- the sum in two's complement of seven bits a byte
unfoldable pub leb_signed : List ℕ → ℤ
leb_signed run = if is_negative run then pos (leb_sum run) -ℤ pos (128 ^ length run) else pos (leb_sum run)

-- every byte but the last is 128 or more, and the last is less
abbrev pub IsRun : List ℕ → Type 0
IsRun [] = ⊥
IsRun (b ∷ []) = b < 128
IsRun (b ∷ c ∷ bs) = (128 ≤ b) × IsRun (c ∷ bs)

-- a run is an unsigned number
pub record Uleb (run : List ℕ) (v : ℕ) : Type 0 where
  pub ends : IsRun run
  pub within : length run ≤ 10
  pub value : v ≡ leb_sum run
  pub fits : v < 2 ^ 64

-- a run is a signed number
pub record Sleb (run : List ℕ) (z : ℤ) : Type 0 where
  pub ends : IsRun run
  pub within : length run ≤ 10
  pub value : z ≡ leb_signed run
  pub fits : FitsSigned w64 z

-- one more byte
abbrev pub longer : Result ℕ ByteFault → Result ℕ ByteFault
longer (Ok n) = Ok (suc n)
longer (Err e) = Err e

-- how many bytes the number at the front has, if it may have at most `most`: Leb if `most` bytes all continue, Short if
-- fewer are left and all continue
unfoldable pub run_length : ℕ → ℕ → List ℕ → Result ℕ ByteFault
run_length place zero bytes = Err (Leb place)
run_length place (suc most) [] = Err (Short place)
run_length place (suc most) (b ∷ bs) = if nat_lt b 128 then Ok 1 else longer (run_length place most bs)

-- the unsigned number at the front
unfoldable pub uleb_at : Cursor → Read ℕ
uleb_at at = do
  n ← run_length at.place 10 at.left
  if nat_lt (leb_sum (take n at.left)) (2 ^ 64) then Ok (leb_sum (take n at.left), past n at) else Err (Leb at.place)

-- whether a number fits 64 bits as two's complement
abbrev pub fits_i64 : ℤ → Bool
fits_i64 z = int_lt (pos 0 -ℤ pos (2 ^ 63 + 1)) z && int_lt z (pos (2 ^ 63))

-- the signed number at the front
unfoldable pub sleb_at : Cursor → Read ℤ
sleb_at at = do
  n ← run_length at.place 10 at.left
  if fits_i64 (leb_signed (take n at.left)) then Ok (leb_signed (take n at.left), past n at) else Err (Leb at.place)
