-- Inside the crate. The file header of a core file that needs no section header (ELF64 gABI, "ELF Header"), and the place of its
-- program headers.
use Rattle.std.specs.Prelude.{◌≡◌, ◌==◌, ℕ, ◌+◌, ◌*◌, ◌≤◌, true, false, List, length}
use Rattle.sf_bytes.specs.declared.file_part.FilePart.{FilePart}
use Rattle.elf_read.specs.Checks.{is_known_machine}
use Rattle.elf_read.specs.Header.{header_fields}

-- the bytes begin with the identification of a little-endian file of 64 bits: ELFCLASS64 2, ELFDATA2LSB 1, EV_CURRENT 1
pub record IsElf64 (header : List ℕ) : Type 0 where
  pub long : 64 ≤ length header
  pub mag : (header_fields header).ei_mag ≡ 0x464c457f
  pub width : (header_fields header).ei_class ≡ 2
  pub order : (header_fields header).ei_data ≡ 1
  pub version : (header_fields header).ei_version ≡ 1
  pub file_version : (header_fields header).e_version ≡ 1

-- it is a core file, ET_CORE 4, of one of the two machines, whose e_phnum isn't PN_XNUM 0xffff
pub record IsCoreHeader (header : List ℕ) : Type 0 where
  pub elf : IsElf64 header
  pub machine : is_known_machine (header_fields header).e_machine ≡ true
  pub kind : (header_fields header).e_type ≡ 4
  pub entry : (header_fields header).e_phentsize ≡ 56
  pub count : ((header_fields header).e_phnum == 0xffff) ≡ false

-- the part is all program headers of a file with this header, and lies in a file of this length
pub record IsTable (header : List ℕ) (table : FilePart) (len : ℕ) : Type 0 where
  pub place : table.place ≡ (header_fields header).e_phoff
  pub size : length table.bytes.items ≡ 56 * (header_fields header).e_phnum
  pub lies : table.place + length table.bytes.items ≤ len
