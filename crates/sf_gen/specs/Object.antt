-- The made object file (ELF64 gABI, "ELF Header", "Sections", "String Table", "Symbol Table" and "Relocation").
use Rattle.std.specs.Prelude.{◌+◌, ◌-◌, ◌*◌, ◌%◌, ◌^◌, ◌++◌, ℕ, List, [], ◌∷◌, codes, length, replicate}
use Rattle.std.specs.List.{flat_map, range_with_len}
use Rattle.sf_gen.specs.Number.{half, word, xword}
use Rattle.sf_gen.specs.Frames.{eh_frame}

-- ---- the contents of the sections
-- 32 bytes of code for each function: the instruction nop
abbrev pub text : (n : ℕ) → List ℕ
text n = replicate (32 * n) 0x90

-- an Elf64_Rela: offset, symbol and type as one number, addend
unfoldable pub rela : (r_offset symbol type r_addend : ℕ) → List ℕ
rela r_offset symbol type r_addend = xword r_offset ++ xword (symbol * 2 ^ 32 + type) ++ xword r_addend

-- PC begin of entry i of .eh_frame, by R_X86_64_PC32: the function's place in .text, whose symbol is 1
abbrev pub start_rela : (i : ℕ) → List ℕ
start_rela i = rela (32 + 32 * i) 1 2 (32 * i)

-- the relocations of the section .eh_frame: one for each function's entry
abbrev pub relas : (n : ℕ) → List ℕ
relas n = flat_map start_rela (range_with_len 0 n)

-- an Elf64_Sym: name, info, other, section, value, size
unfoldable pub symbol : (st_name st_info st_other st_shndx st_value st_size : ℕ) → List ℕ
symbol st_name st_info st_other st_shndx st_value st_size =
    word st_name ++ (st_info ∷ st_other ∷ []) ++ half st_shndx ++ xword st_value ++ xword st_size

-- symbol 0, which is no symbol, and the symbol of section 1: STB_LOCAL, STT_SECTION
abbrev pub symbols : List ℕ
symbols = symbol 0 0 0 0 0 0 ++ symbol 0 3 0 1 0 0

-- a string table: a zero byte, and then each string with a zero byte after it
abbrev pub string_table : List (List ℕ) → List ℕ
string_table strings = 0 ∷ flat_map (λ string. string ++ 0 ∷ []) strings

-- ---- the sections
-- the fields of a section header other than the places of the section's name and bytes, and the bytes
pub record Section : Type 0 where
  pub sh_type : ℕ
  pub sh_flags : ℕ
  pub contents : List ℕ
  pub sh_link : ℕ
  pub sh_info : ℕ
  pub sh_addralign : ℕ
  pub sh_entsize : ℕ

-- the names of sections 1 to 6
abbrev pub section_names : List (List ℕ)
section_names =
    codes ".text" ∷ codes ".eh_frame" ∷ codes ".rela.eh_frame" ∷ codes ".symtab" ∷ codes ".strtab" ∷ codes ".shstrtab" ∷ []

-- SHT_PROGBITS, SHF_ALLOC and SHF_EXECINSTR
abbrev pub text_section : (n : ℕ) → Section
text_section n = record {
  sh_type = 1;
  sh_flags = 6;
  contents = text n;
  sh_link = 0;
  sh_info = 0;
  sh_addralign = 16;
  sh_entsize = 0;
}

-- SHT_PROGBITS, SHF_ALLOC
abbrev pub eh_frame_section : (n : ℕ) → Section
eh_frame_section n = record {
  sh_type = 1;
  sh_flags = 2;
  contents = eh_frame n;
  sh_link = 0;
  sh_info = 0;
  sh_addralign = 8;
  sh_entsize = 0;
}

-- SHT_RELA, SHF_INFO_LINK: by the symbols of section 4, for section 2
abbrev pub rela_section : (n : ℕ) → Section
rela_section n = record {
  sh_type = 4;
  sh_flags = 0x40;
  contents = relas n;
  sh_link = 4;
  sh_info = 2;
  sh_addralign = 8;
  sh_entsize = 24;
}

-- SHT_SYMTAB: names in section 5, all of its two symbols local
abbrev pub symtab_section : Section
symtab_section = record {
  sh_type = 2;
  sh_flags = 0;
  contents = symbols;
  sh_link = 5;
  sh_info = 2;
  sh_addralign = 8;
  sh_entsize = 24;
}

-- SHT_STRTAB: the symbols have no names
abbrev pub strtab_section : Section
strtab_section = record {
  sh_type = 3;
  sh_flags = 0;
  contents = string_table [];
  sh_link = 0;
  sh_info = 0;
  sh_addralign = 1;
  sh_entsize = 0;
}

-- SHT_STRTAB: the sections' names
abbrev pub shstrtab_section : Section
shstrtab_section = record {
  sh_type = 3;
  sh_flags = 0;
  contents = string_table section_names;
  sh_link = 0;
  sh_info = 0;
  sh_addralign = 1;
  sh_entsize = 0;
}

-- sections 1 to 6
abbrev pub object_sections : (n : ℕ) → List Section
object_sections n =
    text_section n ∷ eh_frame_section n ∷ rela_section n ∷ symtab_section ∷ strtab_section ∷ shstrtab_section ∷ []

-- ---- the file
-- the number of zero bytes up to the next multiple of 8
abbrev pub padding_to_eight : (len : ℕ) → ℕ
padding_to_eight len = (8 - len % 8) % 8

-- a part of the file, with zero bytes up to the next multiple of 8
unfoldable pub padded : List ℕ → List ℕ
padded part = part ++ replicate (padding_to_eight (length part)) 0

-- the contents of sections, consecutive
unfoldable pub all_contents : List Section → List ℕ
all_contents parts = flat_map (λ (s : Section). padded s.contents) parts

-- an Elf64_Shdr: the name by its place in the string table, type, flags, address, place and length in the file, link, info,
-- alignment, and the length of an entry
unfoldable pub section_header_bytes : (sh_name sh_type sh_flags sh_offset sh_size sh_link sh_info sh_addralign sh_entsize : ℕ) → List ℕ
section_header_bytes sh_name sh_type sh_flags sh_offset sh_size sh_link sh_info sh_addralign sh_entsize =
    word sh_name ++ word sh_type ++ xword sh_flags ++ xword 0 ++ xword sh_offset ++ xword sh_size ++ word sh_link ++ word sh_info
    ++ xword sh_addralign ++ xword sh_entsize

-- the headers of consecutive sections with these names; the name and the bytes of the first section are at these places
abbrev pub section_headers : (sh_name sh_offset : ℕ) → List (List ℕ) → List Section → List ℕ
section_headers sh_name sh_offset [] parts = []
section_headers sh_name sh_offset names [] = []
section_headers sh_name sh_offset (name ∷ names) (s ∷ later) =
    section_header_bytes sh_name s.sh_type s.sh_flags sh_offset (length s.contents) s.sh_link s.sh_info s.sh_addralign s.sh_entsize
    ++ section_headers (sh_name + (length name + 1)) (sh_offset + length (padded s.contents)) names later

-- e_ident: the magic number, ELFCLASS64, ELFDATA2LSB, EV_CURRENT, and zero bytes
abbrev pub e_ident : List ℕ
e_ident = (0x7f ∷ codes "ELF") ++ (2 ∷ 1 ∷ 1 ∷ []) ++ replicate 9 0

-- the first fields of an Elf64_Ehdr: e_ident, ET_REL, EM_X86_64, EV_CURRENT, no entry point, no program headers
unfoldable pub file_kind : List ℕ
file_kind = e_ident ++ half 1 ++ half 62 ++ word 1 ++ xword 0 ++ xword 0

-- an Elf64_Ehdr of 64 bytes: the place of the section headers, of 64 bytes each, their number, and the section with their names
unfoldable pub file_header : (e_shoff e_shnum e_shstrndx : ℕ) → List ℕ
file_header e_shoff e_shnum e_shstrndx =
    file_kind ++ xword e_shoff ++ word 0 ++ half 64 ++ half 0 ++ half 0 ++ half 64 ++ half e_shnum ++ half e_shstrndx

-- the headers of all sections; that of section 0 is zero
abbrev pub all_headers : (n : ℕ) → List ℕ
all_headers n = replicate 64 0 ++ section_headers 1 64 section_names (object_sections n)

-- the file with n functions: its header, sections 1 to 6, and the section headers 0 to 6
unfoldable pub object_bytes : (n : ℕ) → List ℕ
object_bytes n = file_header (64 + length (all_contents (object_sections n))) 7 6 ++ all_contents (object_sections n) ++ all_headers n
