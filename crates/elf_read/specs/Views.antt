-- What a file that was checked shows: its sections, segments, symbols, relocations and groups (ELF64 gABI,
-- "Sections", "Program Header", "Symbol Table", "Relocation", "Section Groups").
use Rattle.std.specs.Prelude.{ℕ, ◌%◌, ◌==◌, Bool, ◌&&◌, List, length, Option, Some, None, nat_lt, if◌then◌else◌}
use Rattle.elf_read.specs.declared.view.Elf.{Elf}
use Rattle.elf_read.specs.declared.entry.Section.{Section}
use Rattle.elf_read.specs.declared.entry.Symbol.{Symbol}
use Rattle.elf_read.specs.declared.entry.GroupHead.{GroupHead}
use Rattle.elf_read.specs.declared.text.Text.{Text}
use Rattle.elf_read.specs.Number.{field_at, window, text_in}
use Rattle.elf_read.specs.Header.{p_offset, p_filesz}
use Rattle.elf_read.specs.Sections.{SectionHeader, section_fields, section_count, section_bytes, section_name, symbol_fields, member_count}
use Rattle.elf_read.specs.Used.{is_group}

-- the bytes of the whole file
abbrev pub file : Elf → List ℕ
file elf = elf.bytes.now

-- a section header's fields
abbrev pub section_view : SectionHeader → Section
section_view header = record {
  kind = header.sh_type;
  flags = header.sh_flags;
  addr = header.sh_addr;
  offset = header.sh_offset;
  size = header.sh_size;
  link = header.sh_link;
  info = header.sh_info;
  align = header.sh_addralign;
  entry = header.sh_entsize;
}

-- the header of a section
abbrev pub section_of : List ℕ → ℕ → Section
section_of bytes i = section_view (section_fields bytes i)

-- a segment's bytes
abbrev pub segment_bytes : List ℕ → ℕ → List ℕ
segment_bytes bytes i = window (p_offset bytes i) (p_filesz bytes i) bytes

-- a symbol's fields
abbrev pub symbol_of : List ℕ → ℕ → ℕ → Symbol
symbol_of bytes table k = record { name = (symbol_fields bytes table k).st_name; section = (symbol_fields bytes table k).st_shndx; value = (symbol_fields bytes table k).st_value }

-- a symbol's name, in the string table of its table; where that is empty, the name of its section, if its index is a section's number
unfoldable pub symbol_text : List ℕ → ℕ → ℕ → List ℕ
symbol_text bytes table k =
    let symbol = symbol_fields bytes table k in
    let name = text_in symbol.st_name (section_bytes bytes (section_fields bytes table).sh_link) in
    if (length name == 0) && (nat_lt symbol.st_shndx 0xff00 && nat_lt symbol.st_shndx (section_count bytes))
    then section_name bytes symbol.st_shndx
    else name

-- a group: whether it is COMDAT, its signature, and how many members it has
pub record GroupView : Type 0 where
  pub comdat : Bool
  pub signature : List ℕ
  pub count : ℕ

-- the bytes of a text that is lent
abbrev pub text_bytes : Text → List ℕ
text_bytes text = text_in 0 text.rest.now

-- the view of a group's head
abbrev pub group_view : GroupHead → GroupView
group_view head = record { comdat = head.comdat; signature = text_bytes head.signature; count = head.count }

-- the group that is section i, if it is one: GRP_COMDAT is 0x1 in its first word
unfoldable pub group_of : List ℕ → ℕ → Option GroupView
group_of bytes i =
    if is_group bytes i
    then Some (record {
      comdat = field_at 4 0 (section_bytes bytes i) % 2 == 1;
      signature = symbol_text bytes (section_fields bytes i).sh_link (section_fields bytes i).sh_info;
      count = member_count bytes i;
    })
    else None

-- ---- Inside the crate: parts of these
-- a symbol's name, in the string table of its table
unfoldable pub symbol_name : List ℕ → ℕ → ℕ → List ℕ
symbol_name bytes table k = text_in (symbol_fields bytes table k).st_name (section_bytes bytes (section_fields bytes table).sh_link)

-- whether an index is the number of a section; a reserved index isn't
abbrev pub names_section : List ℕ → ℕ → Bool
names_section bytes index = nat_lt index 0xff00 && nat_lt index (section_count bytes)

-- whether a group is a COMDAT group
unfoldable pub is_comdat : List ℕ → ℕ → Bool
is_comdat bytes i = field_at 4 0 (section_bytes bytes i) % 2 == 1
