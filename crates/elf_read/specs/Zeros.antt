-- Inside the crate. Where the zero bytes of a file are (ELF64 gABI, "String Table").
use Rattle.std.specs.Prelude.{ℕ, List}
use Rattle.elf_read.specs.declared.zero_index.Zeros.{Zeros}
use Rattle.elf_read.specs.Masks.{HasNoZeroWhereClear}

-- the pieces that are said to have no zero byte have none
abbrev pub AreZeros : List ℕ → Zeros → Type 0
AreZeros file zeros = HasNoZeroWhereClear file zeros.piece_len zeros.masks.now
