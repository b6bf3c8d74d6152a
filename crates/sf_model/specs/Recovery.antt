-- GNU SFrame specification, Version 2, frame row entries: the caller's frame that a row recovers. The canonical frame address
-- is a register's value plus an offset; a saved value is in the eight bytes at an offset from that address. All addresses are
-- taken modulo 2^64.
use Rattle.std.specs.Prelude.{◌+◌, ◌-◌, ◌%◌, ◌^◌, ℕ, ℤ, pos, negsuc, Bool, true, false, List, Option, Some, None}
use Rattle.sf_model.specs.declared.machine.Base.{Base}
use Rattle.sf_model.specs.declared.machine.Base.TheVariants.{Fp, Sp}
use Rattle.sf_model.specs.declared.machine.Key.{Key}
use Rattle.sf_model.specs.declared.content.Ra.{Ra}
use Rattle.sf_model.specs.declared.content.Ra.TheVariants.{Fixed, Link, At}
use Rattle.sf_model.specs.declared.content.Content.{Content}
use Rattle.sf_model.specs.declared.recovery.Regs.{Regs}
use Rattle.sf_model.specs.declared.recovery.Recovered.{Recovered}
use Rattle.sf_model.specs.Memory.{Region, read_eight}

-- the address a signed number of bytes further on, modulo 2^64: n bytes up, or n + 1 bytes down
unfoldable pub moved : (address : ℕ) → ℤ → ℕ
moved address (pos n) = (address + n) % 2 ^ 64
moved address (negsuc n) = (address + (2 ^ 64 - 1 - n % 2 ^ 64)) % 2 ^ 64

-- a value of the caller's: it is known, or it is saved in the eight bytes from this address on, which can't be read
pub data Value : Type 0 where
  Known : ℕ → Value
  Unreadable : (address : ℕ) → Value

-- what is recovered of the caller's frame
pub record Recovery : Type 0 where
  -- the canonical frame address
  pub frame_address : ℕ
  pub return_address : Value
  pub frame_pointer : Value
  pub stack_pointer : ℕ
  -- the key that signed the return address, or none if it is unsigned
  pub signed : Option Key

-- the value that is saved at an address, given what is read there
abbrev pub saved_value : (address : ℕ) → Option ℕ → Value
saved_value address (Some value) = Known value
saved_value address None = Unreadable address

-- the value that is saved at an address
abbrev pub saved_at : List Region → (address : ℕ) → Value
saved_at memory address = saved_value address (read_eight memory address)

-- the present value of the register that is the base of the canonical frame address
abbrev pub base_value : Base → Regs → ℕ
base_value Fp regs = regs.fp
base_value Sp regs = regs.sp

-- the canonical frame address
abbrev pub frame_address_of : Content → Regs → ℕ
frame_address_of content regs = moved (base_value content.base regs) content.cfa

-- where the return address is saved: at the fixed offset -8 or at the row's own; none if it is in the link register
abbrev pub return_place : Ra → (frame_address : ℕ) → Option ℕ
return_place Fixed frame_address = Some (moved frame_address (negsuc 7))
return_place Link frame_address = None
return_place (At offset) frame_address = Some (moved frame_address offset)

-- where the frame pointer is saved, if it is
abbrev pub pointer_place : Option ℤ → (frame_address : ℕ) → Option ℕ
pointer_place (Some offset) frame_address = Some (moved frame_address offset)
pointer_place None frame_address = None

-- the value of a register that is saved at a place, or has kept its present value
abbrev pub saved_or_kept : List Region → (present : ℕ) → (place : Option ℕ) → Value
saved_or_kept memory present (Some place) = saved_at memory place
saved_or_kept memory present None = Known present

-- the key, if the return address is signed
abbrev pub key_if_signed : (signed : Bool) → Key → Option Key
key_if_signed true key = Some key
key_if_signed false key = None

-- What a row's content recovers, with the key of its function, the present registers and the memory. The caller's stack
-- pointer is the canonical frame address.
unfoldable pub recovery : Content → Key → Regs → List Region → Recovery
recovery content key regs memory = let frame_address = frame_address_of content regs in record {
  frame_address = frame_address;
  return_address = saved_or_kept memory regs.lr (return_place content.ra frame_address);
  frame_pointer = saved_or_kept memory regs.fp (pointer_place content.fp frame_address);
  stack_pointer = frame_address;
  signed = key_if_signed content.signed key;
}

-- a value, if it is known
abbrev pub known : Value → Option ℕ
known (Known value) = Some value
known (Unreadable address) = None

-- what is recovered, without the addresses of what can't be read
abbrev pub recovered : Recovery → Recovered
recovered r = record { cfa = r.frame_address; ra = known r.return_address; fp = known r.frame_pointer; signed = r.signed }

-- the registers of the one case that distinguishes all contents, with an empty memory
abbrev pub deciding_registers : Regs
deciding_registers = record { sp = 0; fp = 2 ^ 40; lr = 0 }
