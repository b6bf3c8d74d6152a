-- The sections that are used: call frame information, its relocations, section groups, and the symbol and string tables that these
-- name (ELF64 gABI, "Relocation", "Section Groups", "Symbol Table").
use Rattle.std.specs.Prelude.{ℕ, zero, suc, ◌+◌, ◌*◌, ◌%◌, ◌==◌, Bool, ◌&&◌, ◌||◌, not, List, Option, Some, None, Ok, Err, min, nat_lt, nat_le, if◌then◌else◌}
use Rattle.elf_read.specs.declared.fault.ElfFault.TheVariants.{EntrySize, Strings, Compressed, SymbolIndex}
use Rattle.elf_read.specs.Number.{has_text}
use Rattle.elf_read.specs.Header.{is_rel}
use Rattle.elf_read.specs.Sections.{section_header, section_fields, section_count, section_bytes, is_compressed, is_eh_frame, symbol_fields, rela_fields, group_member, member_count, entry_count}
use Rattle.elf_read.specs.Checking.{unless, where_so, ◌>>◌, each_below}
use Rattle.elf_read.specs.Checks.{ElfCheck, is_string_table}

-- the number of a section that holds call frame information
unfoldable pub names_eh_frame : List ℕ → ℕ → Bool
names_eh_frame file i = nat_lt i (section_count file) && is_eh_frame file i

-- an SHT_RELA section (4) of an object whose info names call frame information
unfoldable pub is_used_rela : List ℕ → ℕ → Bool
is_used_rela file i = is_rel file && ((section_fields file i).sh_type == 4) && names_eh_frame file (section_fields file i).sh_info

-- an SHT_GROUP section (17) of an object
unfoldable pub is_group : List ℕ → ℕ → Bool
is_group file i = is_rel file && ((section_fields file i).sh_type == 17)

-- a number of a section of type SHT_SYMTAB 2
unfoldable pub is_symbol_table : List ℕ → ℕ → Bool
is_symbol_table file i = nat_lt i (section_count file) && ((section_fields file i).sh_type == 2)

-- whether a section is a table of entries of 24 bytes
unfoldable pub is_entry_table : List ℕ → ℕ → Bool
is_entry_table file i = ((section_fields file i).sh_entsize == 24) && ((section_fields file i).sh_size % 24 == 0)

-- the lesser of two numbers, where there are some
abbrev pub least : Option ℕ → Option ℕ → Option ℕ
least None b = b
least (Some a) None = Some a
least (Some a) (Some b) = Some (min a b)

-- ---- Inside the crate: the checks in the order of the code. `Parsing.antt` has them as a table
-- whether a table has a symbol of this number
unfoldable pub is_symbol : List ℕ → ℕ → ℕ → Bool
is_symbol file table k = nat_lt k (entry_count file table)

-- a relocation section's symbol table, its own entries, and that table's
unfoldable pub rela_tables : List ℕ → ℕ → ElfCheck
rela_tables file i =
    unless (is_symbol_table file (section_fields file i).sh_link) (SymbolIndex (section_header file i))
    >> unless (is_entry_table file i) (EntrySize (section_header file i))
    >> unless (is_entry_table file (section_fields file i).sh_link) (EntrySize (section_header file (section_fields file i).sh_link))

-- the tables of a relocation section that is used
unfoldable pub rela_check : List ℕ → ℕ → ElfCheck
rela_check file i = where_so (is_used_rela file i) (rela_tables file i)

-- the name of a group's symbol is in its table's string table
unfoldable pub has_signature : List ℕ → ℕ → Bool
has_signature file i =
    is_string_table file (section_fields file (section_fields file i).sh_link).sh_link
    && has_text (symbol_fields file (section_fields file i).sh_link (section_fields file i).sh_info).st_name (section_bytes file (section_fields file (section_fields file i).sh_link).sh_link)

-- whether a section is made of at least one word of 4 bytes
unfoldable pub is_word_table : List ℕ → ℕ → Bool
is_word_table file i = ((section_fields file i).sh_size % 4 == 0) && not ((section_fields file i).sh_size == 0)

-- a group's size, its symbol table, its symbol, and the symbol's name
unfoldable pub group_tables : List ℕ → ℕ → ElfCheck
group_tables file i =
    unless (is_word_table file i) (EntrySize (section_header file i))
    >> unless (is_symbol_table file (section_fields file i).sh_link) (SymbolIndex (section_header file i))
    >> unless (is_entry_table file (section_fields file i).sh_link) (EntrySize (section_header file (section_fields file i).sh_link))
    >> unless (is_symbol file (section_fields file i).sh_link (section_fields file i).sh_info) (SymbolIndex (section_header file i))
    >> unless (has_signature file i) (Strings (section_header file i))

-- a member is the number of a section
unfoldable pub member_check : List ℕ → ℕ → ℕ → ElfCheck
member_check file i k = unless (nat_lt (group_member file i k) (section_count file)) (SymbolIndex ((section_fields file i).sh_offset + (4 * k + 4)))

-- each member of a group is the number of a section
unfoldable pub members_check : List ℕ → ℕ → ElfCheck
members_check file i = each_below (member_count file i) (member_check file i)

-- the tables and the members of a section that is a group
unfoldable pub group_check : List ℕ → ℕ → ElfCheck
group_check file i = where_so (is_group file i) (group_tables file i >> members_check file i)

-- this number, where it is used and names a compressed section
unfoldable pub if_compressed : List ℕ → Bool → ℕ → Option ℕ
if_compressed file used i = if used then (if is_compressed file i then Some i else None) else None

-- the least compressed section among those that are used because of section i: itself, its symbol table, and
-- the string table of that
unfoldable pub compressed_by : List ℕ → ℕ → Option ℕ
compressed_by file i =
    least (if_compressed file (is_eh_frame file i || (is_used_rela file i || is_group file i)) i)
    (least (if_compressed file (is_used_rela file i || is_group file i) (section_fields file i).sh_link)
    (if_compressed file (is_group file i) (section_fields file (section_fields file i).sh_link).sh_link))

-- the least compressed section among those that are used because of the first n sections
unfoldable pub least_compressed : List ℕ → ℕ → Option ℕ
least_compressed file zero = None
least_compressed file (suc n) = least (least_compressed file n) (compressed_by file n)

-- the fault of the compressed section that is named, if there is one
abbrev pub refused_compressed : List ℕ → Option ℕ → ElfCheck
refused_compressed file None = Ok tt
refused_compressed file (Some i) = Err (Compressed (section_header file i))

-- no used section is compressed; the first in order of number is named
unfoldable pub compressed_check : List ℕ → ElfCheck
compressed_check file = refused_compressed file (least_compressed file (section_count file))

-- whether an index is the number of a section, or reserved: SHN_LORESERVE 0xff00 and above
abbrev pub is_section_number : List ℕ → ℕ → Bool
is_section_number file index = nat_le 0xff00 index || nat_lt index (section_count file)

-- whether a table has a symbol of this number that lies in a section of the file or has a reserved index
unfoldable pub is_sound_symbol : List ℕ → ℕ → ℕ → Bool
is_sound_symbol file table k = is_symbol file table k && is_section_number file (symbol_fields file table k).st_shndx

-- an entry's symbol is sound
unfoldable pub entry_check : List ℕ → ℕ → ℕ → ElfCheck
entry_check file i k = unless (is_sound_symbol file (section_fields file i).sh_link (rela_fields file i k).r_sym) (SymbolIndex ((section_fields file i).sh_offset + 24 * k))

-- the symbols of a relocation section that is used
unfoldable pub entries_check : List ℕ → ℕ → ElfCheck
entries_check file i = where_so (is_used_rela file i) (each_below (entry_count file i) (entry_check file i))
