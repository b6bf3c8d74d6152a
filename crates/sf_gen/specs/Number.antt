-- Numbers of an ELF64 file (ELF64 gABI, "Data Representation"), least significant byte first.
use Rattle.std.specs.Prelude.{ℕ, List}
use Rattle.byteorder.specs.Endian.{little_bytes}

-- Elf64_Half: two bytes
unfoldable pub half : ℕ → List ℕ
half n = little_bytes 2 n

-- Elf64_Word: four bytes
unfoldable pub word : ℕ → List ℕ
word n = little_bytes 4 n

-- Elf64_Xword, Elf64_Addr and Elf64_Off: eight bytes
unfoldable pub xword : ℕ → List ℕ
xword n = little_bytes 8 n
