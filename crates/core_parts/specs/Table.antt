-- Inside the crate. The program headers of a core file (Elf64_Phdr; ELF64 gABI, "Program Header"), by the bytes of its file header
-- and of their table.
use Rattle.std.specs.Prelude.{◌≡◌, ℕ, ◌+◌, ◌*◌, true, List, map}
use Rattle.std.specs.List.{range_with_len}
use Rattle.sf_bytes.specs.declared.file_part.FilePart.{FilePart}
use Rattle.elf_read.specs.Header.{header_fields}
use Rattle.elf_read.specs.Number.{field_at, has_flag}
use Rattle.core_parts.specs.declared.segment.SegmentHead.{SegmentHead}
use Rattle.core_parts.specs.CoreHeader.{IsCoreHeader, IsTable}
use Rattle.core_parts.specs.Heads.{heads_lie, heads_rise}

-- program header i of a table: p_type, p_vaddr, p_offset, p_filesz, p_memsz, and whether PF_X 0x1 of p_flags is set
abbrev pub head_at : List ℕ → ℕ → SegmentHead
head_at table i = record {
  kind = field_at 4 (56 * i + 0) table;
  vaddr = field_at 8 (56 * i + 16) table;
  place = field_at 8 (56 * i + 8) table;
  size = field_at 8 (56 * i + 32) table;
  memory_size = field_at 8 (56 * i + 40) table;
  executable = has_flag (field_at 4 (56 * i + 4) table) 1;
}

-- these are all program headers of a file of this length, whose segments lie in it and rise
pub record AreHeads (header : List ℕ) (table : FilePart) (len : ℕ) (heads : List SegmentHead) : Type 0 where
  pub header_is : IsCoreHeader header
  pub table_is : IsTable header table len
  pub heads_are : heads ≡ map (head_at table.bytes.items) (range_with_len 0 (header_fields header).e_phnum)
  pub lie : heads_lie len heads ≡ true
  pub rise : heads_rise 0 heads ≡ true
