-- The memory that a stack walk reads: runs of bytes at addresses of 64 bits, as the load segments of a core file (ELF64 gABI,
-- "Program Header", PT_LOAD) give them. Numbers are little-endian.
use Rattle.std.specs.Prelude.{◌+◌, ◌-◌, ◌^◌, ◌&&◌, ℕ, Bool, nat_le, List, length, drop, Option, None, if◌then◌else◌}
use Rattle.std.specs.Option.{option_map}
use Rattle.std.specs.List.{find}
use Rattle.byteorder.specs.Endian.{little_number}

-- a run of bytes, and the address of its first
pub record Region : Type 0 where
  pub start : ℕ
  pub bytes : List ℕ

-- the eight bytes from an address on lie in the region
abbrev pub holds_eight : (address : ℕ) → Region → Bool
holds_eight address region = nat_le region.start address && nat_le (address + 8) (region.start + length region.bytes)

-- the number in the region's eight bytes from an address on
abbrev pub eight_bytes : (address : ℕ) → Region → ℕ
eight_bytes address region = little_number 8 (drop (address - region.start) region.bytes)

-- the number in the eight bytes from an address on, by the first region that holds them all; none if no region does or if
-- they would pass the end of the addresses
unfoldable pub read_eight : List Region → (address : ℕ) → Option ℕ
read_eight memory address =
    if nat_le (address + 8) (2 ^ 64) then option_map (eight_bytes address) (find (holds_eight address) memory) else None
