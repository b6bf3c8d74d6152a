-- What is asked of an ELF64 file, as a table: each row has a condition, and the fault of a file that breaks it with its place. The rows are
-- in order, and the first that is broken is the file's fault (ELF64 gABI, "ELF Header", "Sections", "Program Header", "Relocation",
-- "Section Groups", "Symbol Table", "Compressed Sections").
use Rattle.std.specs.Prelude.{ℕ, suc, ◌+◌, ◌*◌, ◌%◌, ◌==◌, Bool, false, ◌&&◌, ◌||◌, not, List, [], ◌∷◌, ◌++◌, length, map, filter, flat_map, sum_by, Option, Some, None, option_to_list, Result, nat_lt, nat_le, if◌then◌else◌}
use Rattle.elf_read.specs.declared.fault.ElfFault.{ElfFault}
use Rattle.elf_read.specs.declared.fault.ElfFault.TheVariants.{Short, NotElf, Class, Order, Version, Machine, Kind, EntrySize, Strings, OutOfFile, Compressed, SymbolIndex}
use Rattle.elf_read.specs.Checking.{first_broken, numbers_below}
use Rattle.elf_read.specs.Number.{lies_in, has_text}
use Rattle.elf_read.specs.Header.{FileHeader, header_fields, is_core, program_header, p_offset, p_filesz}
use Rattle.elf_read.specs.Sections.{section_header, section_fields, symbol_fields, rela_fields, section_count, segment_total, has_bytes, section_bytes, name_table, is_compressed, group_member, member_count, entry_count}
use Rattle.elf_read.specs.Checks.{is_string_table}
use Rattle.elf_read.specs.TotalSize.{is_read}
use Rattle.elf_read.specs.Used.{is_used_rela, is_group, is_symbol_table, is_entry_table, least}

-- the numbers of a file's sections
abbrev pub sections : List ℕ → List ℕ
sections file = numbers_below (section_count file)

-- The identification, the machine and the type: ELFCLASS64 2, ELFDATA2LSB 1, EV_CURRENT 1; EM_X86_64 62, EM_AARCH64 183; ET_REL 1 to
-- ET_CORE 4.
abbrev pub identity_rules : (len : ℕ) → FileHeader → List (Bool × ElfFault)
identity_rules len h =
    (nat_le 64 len, Short len)
    ∷ (h.ei_mag == 0x464c457f, NotElf 0)
    ∷ (h.ei_class == 2, Class 4)
    ∷ (h.ei_data == 1, Order 5)
    ∷ (h.ei_version == 1, Version 6)
    ∷ (h.e_version == 1, Version 20)
    ∷ ((h.e_machine == 62) || (h.e_machine == 183), Machine 18)
    ∷ (nat_le 1 h.e_type && nat_le h.e_type 4, Kind 16)
    ∷ []

-- Section 0's header, where it is needed: for the sections of a file that is no core file, or for the number of segments (PN_XNUM 0xffff).
abbrev pub first_section_rules : (len : ℕ) → FileHeader → List (Bool × ElfFault)
first_section_rules len h =
    if (not (h.e_shoff == 0) && not (h.e_type == 4)) || (h.e_phnum == 0xffff)
    then (h.e_shentsize == 64, EntrySize 58) ∷ (not (h.e_shoff == 0) && lies_in len h.e_shoff 1 64, OutOfFile 40) ∷ []
    else []

-- the program headers of a core file, and the bytes of its segments
abbrev pub core_rules : List ℕ → List (Bool × ElfFault)
core_rules file =
    ((segment_total file == 0) || ((header_fields file).e_phentsize == 56), EntrySize 54)
    ∷ (lies_in (length file) (header_fields file).e_phoff (segment_total file) 56, OutOfFile 32)
    ∷ map (λ i. (lies_in (length file) (p_offset file i) (p_filesz file i) 1, OutOfFile (program_header file i))) (numbers_below (segment_total file))

-- the section headers, and the bytes of the sections
abbrev pub section_rules : List ℕ → List (Bool × ElfFault)
section_rules file =
    (lies_in (length file) (header_fields file).e_shoff (section_count file) 64, OutOfFile 40)
    ∷ map (λ i. (lies_in (length file) (section_fields file i).sh_offset (section_fields file i).sh_size 1, OutOfFile (section_header file i)))
    (filter (has_bytes file) (sections file))

-- the sections' names, where there is a name table
abbrev pub name_rules : List ℕ → List (Bool × ElfFault)
name_rules file =
    if not (section_count file == 0) && not (name_table file == 0)
    then (is_string_table file (name_table file), Strings 62)
    ∷ map (λ i. (has_text (section_fields file i).sh_name (section_bytes file (name_table file)), Strings (section_header file i))) (sections file)
    else []

-- the tables that section i, relocations of call frame information, names, and its own entries
abbrev pub rela_rules : List ℕ → (i : ℕ) → List (Bool × ElfFault)
rela_rules file i =
    let symbols = (section_fields file i).sh_link in
    (is_symbol_table file symbols, SymbolIndex (section_header file i))
    ∷ (is_entry_table file i, EntrySize (section_header file i))
    ∷ (is_entry_table file symbols, EntrySize (section_header file symbols))
    ∷ []

-- no byte is in two sections, so there is room in the file for all that are read, up to each
abbrev pub room_rules : List ℕ → List (Bool × ElfFault)
room_rules file =
    map (λ i. (nat_le (sum_by (λ j. length (section_bytes file j)) (filter (is_read file) (numbers_below (suc i)))) (length file), OutOfFile (section_header file i)))
    (sections file)

-- section i, a group: its words, its symbol with that one's name, and its members
abbrev pub group_rules : List ℕ → (i : ℕ) → List (Bool × ElfFault)
group_rules file i =
    let group = section_fields file i in
    let strings = (section_fields file group.sh_link).sh_link in
    ((group.sh_size % 4 == 0) && not (group.sh_size == 0), EntrySize (section_header file i))
    ∷ (is_symbol_table file group.sh_link, SymbolIndex (section_header file i))
    ∷ (is_entry_table file group.sh_link, EntrySize (section_header file group.sh_link))
    ∷ (nat_lt group.sh_info (entry_count file group.sh_link), SymbolIndex (section_header file i))
    ∷ (is_string_table file strings && has_text (symbol_fields file group.sh_link group.sh_info).st_name (section_bytes file strings), Strings (section_header file i))
    ∷ map (λ k. (nat_lt (group_member file i k) (section_count file), SymbolIndex (group.sh_offset + (4 * k + 4)))) (numbers_below (member_count file i))

-- the sections that are used because of section i: itself, its symbol table, and of a group that table's strings
abbrev pub used_by : List ℕ → (i : ℕ) → List ℕ
used_by file i =
    (if is_read file i then i ∷ [] else [])
    ++ (if is_used_rela file i || is_group file i then (section_fields file i).sh_link ∷ [] else [])
    ++ (if is_group file i then (section_fields file (section_fields file i).sh_link).sh_link ∷ [] else [])

-- the lowest of some numbers, if there is one
abbrev pub lowest : List ℕ → Option ℕ
lowest [] = None
lowest (n ∷ ns) = least (Some n) (lowest ns)

-- no section that is used is compressed; the one with the lowest number is named
abbrev pub compressed_rules : List ℕ → List (Bool × ElfFault)
compressed_rules file =
    map (λ i. (false, Compressed (section_header file i)))
    (option_to_list (lowest (filter (is_compressed file) (flat_map (used_by file) (sections file)))))

-- the symbol of each relocation of section i is in its table, and is in a section or has a reserved index (SHN_LORESERVE 0xff00 and above)
abbrev pub entry_rules : List ℕ → (i : ℕ) → List (Bool × ElfFault)
entry_rules file i =
    let symbols = (section_fields file i).sh_link in
    map (λ k.
    let symbol = (rela_fields file i k).r_sym in
    let index = (symbol_fields file symbols symbol).st_shndx in
    (nat_lt symbol (entry_count file symbols) && (nat_le 0xff00 index || nat_lt index (section_count file)), SymbolIndex ((section_fields file i).sh_offset + 24 * k)))
    (numbers_below (entry_count file i))

-- all rows
unfoldable pub file_rules : List ℕ → List (Bool × ElfFault)
file_rules file =
    identity_rules (length file) (header_fields file)
    ++ first_section_rules (length file) (header_fields file)
    ++ (if is_core file
    then core_rules file
    else (section_rules file
    ++ name_rules file
    ++ flat_map (rela_rules file) (filter (is_used_rela file) (sections file))
    ++ room_rules file
    ++ flat_map (group_rules file) (filter (is_group file) (sections file))
    ++ compressed_rules file
    ++ flat_map (entry_rules file) (filter (is_used_rela file) (sections file))))

-- the file's fault, or none
unfoldable pub file_check : List ℕ → Result (Unit {0}) ElfFault
file_check file = first_broken (file_rules file)
