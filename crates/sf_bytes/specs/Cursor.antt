-- What a part means, and what each read of fixed width gives. Numbers are little-endian and signed
-- numbers are two's complement (ELF64 gABI, "Data Representation"; DWARF 5, section 7.6 for LEB128).
use Rattle.std.specs.Prelude.{◌≡◌, ℕ, ℤ, ◌+◌, List, length, take, drop, Result, Ok, Err, nat_lt, if◌then◌else◌}
use Rattle.byteorder.specs.Endian.{little_number, twos_complement}
use Rattle.sf_bytes.specs.declared.fault.ByteFault.{ByteFault}
use Rattle.sf_bytes.specs.declared.fault.ByteFault.TheVariants.{Short}
use Rattle.sf_bytes.specs.declared.part.Part.{Part}
use Rattle.sf_bytes.specs.Answers.{Is}
pub use Rattle.sf_bytes.specs.Steps.{◌>>=◌}

-- a place, and the bytes from it on
pub record Cursor : Type 0 where
  pub place : ℕ
  pub left : List ℕ

-- the cursor of a part
abbrev pub cursor : Part → Cursor
cursor p = record { place = p.place; left = p.bytes.now }

-- the cursor after the next n bytes
abbrev pub past : ℕ → Cursor → Cursor
past n at = record { place = at.place + n; left = drop n at.left }

-- a value and the cursor after it, or the first fault
abbrev pub Read : Type 0 → Type 0
Read X = Result (X × Cursor) ByteFault

-- what a call on a part returned, seen through `view`, is what the read gives, and the part is what the read leaves; on
-- a fault the part is unchanged
abbrev pub Gives : {X Y : Type 0} → (X → Y) → Part → Part → Result X ByteFault → Read Y → Type 0
Gives view old new (Ok x) read = read ≡ Ok (view x, cursor new)
Gives view old new (Err e) read = (read ≡ Err e) × (cursor new ≡ cursor old)

-- Inside the crate: what a call returned, seen through `view`, is what the read gives, and the part is what the read leaves; on a fault
-- nothing is claimed of the part
abbrev pub Reads : {X Y F : Type 0} → (X → Y) → (new : Part) → Result X F → Result (Y × Cursor) F → Type 0
Reads view new result read = Is (λ x. (view x, cursor new)) result read

-- a part ends where it did, whatever was read from its front
abbrev pub EndStays : Part → Part → Type 0
EndStays old new = new.place + length new.bytes.now ≡ old.place + length old.bytes.now

-- the next n bytes as a cursor of their own
unfoldable pub part_at : ℕ → Cursor → Read Cursor
part_at n at = if nat_lt (length at.left) n then Err (Short at.place) else Ok (record { place = at.place; left = take n at.left }, past n at)

-- the number in the next n bytes
unfoldable pub number_at : ℕ → Cursor → Read ℕ
number_at n at = if nat_lt (length at.left) n then Err (Short at.place) else Ok (little_number n (take n at.left), past n at)

-- the signed number in the next n bytes
unfoldable pub signed_at : ℕ → Cursor → Read ℤ
signed_at n at = if nat_lt (length at.left) n then Err (Short at.place) else Ok (twos_complement n (little_number n (take n at.left)), past n at)
