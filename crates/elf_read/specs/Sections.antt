-- Sections, symbols and relocations (ELF64 gABI, "Sections", "String Table", "Symbol Table", "Relocation"
-- and "Section Groups").
use Rattle.std.specs.Prelude.{ℕ, ℤ, true, false, ◌+◌, ◌-◌, ◌*◌, ◌/◌, ◌==◌, Bool, ◌&&◌, List, [], ◌∷◌, length, drop, if◌then◌else◌}
use Rattle.byteorder.specs.Endian.{twos_complement}
use Rattle.std.specs.Cmp.Lexicographic.{pointwise}
use Rattle.elf_read.specs.declared.section_header.SectionHeader.{SectionHeader as Header}
use Rattle.elf_read.specs.Number.{field_at, window, has_flag, text_in}
use Rattle.elf_read.specs.Header.{header_fields, is_core}

-- the place of a section header
abbrev pub section_header : List ℕ → ℕ → ℕ
section_header file i = (header_fields file).e_shoff + 64 * i

-- a section header (Elf64_Shdr): each field's width and place in it
pub record SectionHeader : Type 0 where
  pub sh_name : ℕ
  pub sh_type : ℕ
  pub sh_flags : ℕ
  pub sh_addr : ℕ
  pub sh_offset : ℕ
  pub sh_size : ℕ
  pub sh_link : ℕ
  pub sh_info : ℕ
  pub sh_addralign : ℕ
  pub sh_entsize : ℕ

-- a section header whose fields are these, each by its width and its place in the header
abbrev pub section_by : ((width place : ℕ) → ℕ) → SectionHeader
section_by field = record {
  sh_name = field 4 0;
  sh_type = field 4 4;
  sh_flags = field 8 8;
  sh_addr = field 8 16;
  sh_offset = field 8 24;
  sh_size = field 8 32;
  sh_link = field 4 40;
  sh_info = field 4 44;
  sh_addralign = field 8 48;
  sh_entsize = field 8 56;
}

-- the header of section i
unfoldable pub section_fields : List ℕ → ℕ → SectionHeader
section_fields file i = section_by (λ width place. field_at width (64 * i + place) (drop (header_fields file).e_shoff file))

-- the number of sections: where e_shnum is 0, section 0's size; those of a core file aren't read
unfoldable pub section_count : List ℕ → ℕ
section_count file =
    let h = header_fields file in
    if is_core file then 0 else (if h.e_shoff == 0 then 0 else (if h.e_shnum == 0 then (section_fields file 0).sh_size else h.e_shnum))

-- how many program headers the file has: where e_phnum is PN_XNUM 0xffff, section 0's info
unfoldable pub segment_total : List ℕ → ℕ
segment_total file = if (header_fields file).e_phnum == 0xffff then (section_fields file 0).sh_info else (header_fields file).e_phnum

-- the number of segments; only those of a core file are read
unfoldable pub segment_count : List ℕ → ℕ
segment_count file = if is_core file then segment_total file else 0

-- whether a section with this header has bytes in the file: SHT_NULL 0 and SHT_NOBITS 8 have none
abbrev pub is_in_file : SectionHeader → Bool
is_in_file header = if header.sh_type == 0 then false else (if header.sh_type == 8 then false else true)

-- whether a section has bytes in the file
unfoldable pub has_bytes : List ℕ → ℕ → Bool
has_bytes file i = is_in_file (section_fields file i)

-- a section's bytes
unfoldable pub section_bytes : List ℕ → ℕ → List ℕ
section_bytes file i = if has_bytes file i then window (section_fields file i).sh_offset (section_fields file i).sh_size file else []

-- the number of the section that holds the sections' names; SHN_XINDEX 0xffff says that it is section 0's link
unfoldable pub name_table : List ℕ → ℕ
name_table file = if (header_fields file).e_shstrndx == 0xffff then (section_fields file 0).sh_link else (header_fields file).e_shstrndx

-- a section's name; without a name table every name is empty
unfoldable pub section_name : List ℕ → ℕ → List ℕ
section_name file i = if name_table file == 0 then [] else text_in (section_fields file i).sh_name (section_bytes file (name_table file))

-- whether a section is loaded: SHF_ALLOC 0x2
unfoldable pub is_allocated : List ℕ → ℕ → Bool
is_allocated file i = has_flag (section_fields file i).sh_flags 2

-- whether a section has the flag SHF_INFO_LINK 0x40: its info is the number of a section
unfoldable pub has_info_link : List ℕ → ℕ → Bool
has_info_link file i = has_flag (section_fields file i).sh_flags 0x40

-- whether a section's bytes are compressed: SHF_COMPRESSED 0x800
unfoldable pub is_compressed : List ℕ → ℕ → Bool
is_compressed file i = has_flag (section_fields file i).sh_flags 0x800

-- whether a section holds call frame information that is loaded: its name is ".eh_frame"
unfoldable pub is_eh_frame : List ℕ → ℕ → Bool
is_eh_frame file i =
    is_allocated file i && pointwise (λ (a b : ℕ). a == b) (section_name file i) (46 ∷ 101 ∷ 104 ∷ 95 ∷ 102 ∷ 114 ∷ 97 ∷ 109 ∷ 101 ∷ [])

-- an entry of a symbol table (Elf64_Sym): each field's width and place in it
pub record SymbolEntry : Type 0 where
  pub st_name : ℕ
  pub st_shndx : ℕ
  pub st_value : ℕ

-- symbol k of the table that is section i
unfoldable pub symbol_fields : List ℕ → ℕ → ℕ → SymbolEntry
symbol_fields file i k = record {
  st_name = field_at 4 (24 * k + 0) (section_bytes file i);
  st_shndx = field_at 2 (24 * k + 6) (section_bytes file i);
  st_value = field_at 8 (24 * k + 8) (section_bytes file i);
}

-- a relocation with an addend (Elf64_Rela): the low half of its info is its type, the high half its symbol
pub record RelaEntry : Type 0 where
  pub r_offset : ℕ
  pub r_type : ℕ
  pub r_sym : ℕ
  pub r_addend : ℤ

-- entry k of the relocation section i
unfoldable pub rela_fields : List ℕ → ℕ → ℕ → RelaEntry
rela_fields file i k = record {
  r_offset = field_at 8 (24 * k) (section_bytes file i);
  r_type = field_at 4 (24 * k + 8) (section_bytes file i);
  r_sym = field_at 4 (24 * k + 12) (section_bytes file i);
  r_addend = twos_complement 8 (field_at 8 (24 * k + 16) (section_bytes file i));
}

-- the number of a member of a group; the word before the members holds the group's flags
unfoldable pub group_member : List ℕ → ℕ → ℕ → ℕ
group_member file i k = field_at 4 (4 * k + 4) (section_bytes file i)

-- how many members a group's bytes hold after its flags
unfoldable pub member_count : List ℕ → ℕ → ℕ
member_count file i = length (section_bytes file i) / 4 - 1

-- how many symbols or relocations, of 24 bytes each, a section's bytes hold
unfoldable pub entry_count : List ℕ → ℕ → ℕ
entry_count file i = length (section_bytes file i) / 24

-- ---- Inside the crate
-- how many section headers the file has
unfoldable pub section_total : List ℕ → ℕ
section_total file =
    let h = header_fields file in
    if h.e_shoff == 0 then 0 else (if h.e_shnum == 0 then (section_fields file 0).sh_size else h.e_shnum)

-- the fields of a section header that is lent
abbrev pub fields_of : Header → SectionHeader
fields_of header = section_by (λ width place. field_at width place header.bytes.now)
