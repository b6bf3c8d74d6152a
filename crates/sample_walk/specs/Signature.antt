-- Return addresses without their signature (AArch64 pointer authentication; GNU SFrame specification, Version 2, the key of a function
-- descriptor entry), where the bits that hold a signature may not be known.
use Rattle.std.specs.Prelude.{ℕ, ◌^◌, Bool, true, false, nat_lt, Option, Some, None, bit_and, if◌then◌else◌}
use Rattle.std.specs.Int.{w64, bit_not}

-- An address as it is, if all its bits are in the address space of 48 bits: a processor without pointer authentication signs nothing. None if a
-- bit above them is set, which only a signature sets.
abbrev pub in_address_space : ℕ → Option ℕ
in_address_space address = if nat_lt address (2 ^ 48) then Some address else None

-- a return address without its signature, with the bits of the mask cleared; without a mask it is taken only where nothing was signed
abbrev pub unsigned_by : (signed : Bool) → (mask : Option ℕ) → ℕ → Option ℕ
unsigned_by false mask address = Some address
unsigned_by true None address = in_address_space address
unsigned_by true (Some mask) address = Some (bit_and address (bit_not w64 mask))
