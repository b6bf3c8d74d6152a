-- The other fields of a program header (ELF64 gABI, "Program Header"): its flags, and its size in memory.
use Rattle.std.specs.Prelude.{ℕ, Bool, List}
use Rattle.elf_read.specs.declared.program_header.ProgramHeader.{ProgramHeader as Header}
use Rattle.elf_read.specs.Number.{field_at, has_flag}
use Rattle.elf_read.specs.Header as fields
use Rattle.elf_read.specs.Header.{p_field}

-- the flags of a segment
unfoldable pub p_flags : List ℕ → ℕ → ℕ
p_flags file i = p_field 4 4 file i

-- the size of a segment in memory
unfoldable pub p_memsz : List ℕ → ℕ → ℕ
p_memsz file i = p_field 8 40 file i

-- whether a segment is executable: PF_X 0x1
abbrev pub is_executable : List ℕ → ℕ → Bool
is_executable file i = has_flag (p_flags file i) 1

-- ---- Inside the crate: a program header as one value
-- a program header (Elf64_Phdr)
pub record ProgramHeader : Type 0 where
  pub kind : ℕ
  pub flags : ℕ
  pub offset : ℕ
  pub vaddr : ℕ
  pub file_size : ℕ
  pub memory_size : ℕ

-- program header i
abbrev pub program_fields : List ℕ → ℕ → ProgramHeader
program_fields file i = record {
  kind = fields.p_type file i;
  flags = p_flags file i;
  offset = fields.p_offset file i;
  vaddr = fields.p_vaddr file i;
  file_size = fields.p_filesz file i;
  memory_size = p_memsz file i;
}

-- the fields of a program header that is lent
abbrev pub fields_of : Header → ProgramHeader
fields_of header = record {
  kind = field_at 4 0 header.bytes.now;
  flags = field_at 4 4 header.bytes.now;
  offset = field_at 8 8 header.bytes.now;
  vaddr = field_at 8 16 header.bytes.now;
  file_size = field_at 8 32 header.bytes.now;
  memory_size = field_at 8 40 header.bytes.now;
}
