-- Texts that a zero byte ends, as the augmentation string of a CIE (LSB Core, "The .eh_frame section")
-- or a name in a string table (ELF64 gABI, "String Table").
use Rattle.std.specs.Prelude.{ℕ, ◌+◌, ◌==◌, List, take, Option, Some, None, Ok, Err}
use Rattle.std.specs.List.{position}
use Rattle.sf_bytes.specs.declared.fault.ByteFault.TheVariants.{Short}
use Rattle.sf_bytes.specs.Cursor.{Cursor, Read, past}

-- a text of n bytes at the front, and the cursor after its zero byte
abbrev pub text_upto : Option ℕ → Cursor → Read (List ℕ)
text_upto None at = Err (Short at.place)
text_upto (Some n) at = Ok (take n at.left, past (n + 1) at)

-- the bytes before the next zero byte, which is passed
unfoldable pub text_at : Cursor → Read (List ℕ)
text_at at = text_upto (position (λ b. b == 0) at.left) at
