-- Checks of an ELF64 file up to the sections' names (ELF64 gABI, "ELF Header", "Sections", "Program Header"). A check gives what is
-- wrong, with its place in the file.
use Rattle.std.specs.Prelude.{ℕ, ◌==◌, Bool, ◌&&◌, ◌||◌, not, List, length, Result, nat_lt, nat_le}
use Rattle.elf_read.specs.declared.fault.ElfFault.{ElfFault}
use Rattle.elf_read.specs.declared.fault.ElfFault.TheVariants.{Short, NotElf, Class, Order, Version, Machine, Kind, EntrySize, Strings, OutOfFile}
use Rattle.elf_read.specs.Checking.{unless, where_so, ◌>>◌, each_below}
use Rattle.elf_read.specs.Number.{field_at, lies_in, has_text}
use Rattle.elf_read.specs.Header.{header_fields, is_core, program_header, p_offset, p_filesz}
use Rattle.elf_read.specs.Sections.{section_header, section_fields, section_count, segment_total, has_bytes, section_bytes, name_table}

-- what a check gives: nothing, or the fault
abbrev pub ElfCheck : Type 0
ElfCheck = Result (Unit {0}) ElfFault

-- the program headers of a file of any kind have the format's length, and lie in the file
unfoldable pub program_headers_check : List ℕ → ElfCheck
program_headers_check file =
    unless ((header_fields file).e_phentsize == 56) (EntrySize 54)
    >> unless (lies_in (length file) (header_fields file).e_phoff (segment_total file) 56) (OutOfFile 32)

-- a number of a section of type SHT_STRTAB 3
unfoldable pub is_string_table : List ℕ → ℕ → Bool
is_string_table file i = nat_lt i (section_count file) && ((section_fields file i).sh_type == 3)

-- ---- Inside the crate: the checks in the order of the code. `Parsing.antt` has them as a table
-- the identification, and the fields that say for which machine and of what kind the file is
unfoldable pub identity_check : List ℕ → ElfCheck
identity_check file =
    unless (nat_le 64 (length file)) (Short (length file))
    >> unless (field_at 4 0 file == 0x464c457f) (NotElf 0)
    >> unless (field_at 1 4 file == 2) (Class 4)
    >> unless (field_at 1 5 file == 1) (Order 5)
    >> unless (field_at 1 6 file == 1) (Version 6)
    >> unless (field_at 4 20 file == 1) (Version 20)

-- EM_X86_64 62, EM_AARCH64 183
abbrev pub is_known_machine : ℕ → Bool
is_known_machine machine = (machine == 62) || (machine == 183)

-- ET_REL 1 to ET_CORE 4
abbrev pub is_known_type : ℕ → Bool
is_known_type kind = nat_le 1 kind && nat_le kind 4

-- the machine and the type are known ones
unfoldable pub purpose_check : List ℕ → ElfCheck
purpose_check file =
    unless (is_known_machine (header_fields file).e_machine) (Machine 18)
    >> unless (is_known_type (header_fields file).e_type) (Kind 16)

-- whether section 0's header is needed: for sections, or for the number of segments
unfoldable pub needs_sections : List ℕ → Bool
needs_sections file = (not ((header_fields file).e_shoff == 0) && not (is_core file)) || ((header_fields file).e_phnum == 0xffff)

-- there are section headers, and section 0's lies in the file
unfoldable pub has_first_section : List ℕ → Bool
has_first_section file = not ((header_fields file).e_shoff == 0) && lies_in (length file) (header_fields file).e_shoff 1 64

-- section headers have the format's length, and section 0's is there
unfoldable pub first_section_check : List ℕ → ElfCheck
first_section_check file =
    unless ((header_fields file).e_shentsize == 64) (EntrySize 58)
    >> unless (has_first_section file) (OutOfFile 40)

-- a segment's bytes lie in the file
unfoldable pub segment_check : List ℕ → ℕ → ElfCheck
segment_check file i = unless (lies_in (length file) (p_offset file i) (p_filesz file i) 1) (OutOfFile (program_header file i))

-- where there are program headers, they have the format's length
abbrev pub has_program_headers : List ℕ → Bool
has_program_headers file = (segment_total file == 0) || ((header_fields file).e_phentsize == 56)

-- the program headers of a core file, and the bytes of its segments
unfoldable pub core_check : List ℕ → ElfCheck
core_check file =
    unless (has_program_headers file) (EntrySize 54)
    >> unless (lies_in (length file) (header_fields file).e_phoff (segment_total file) 56) (OutOfFile 32)
    >> each_below (segment_total file) (segment_check file)

-- a section's bytes lie in the file
unfoldable pub bytes_check : List ℕ → ℕ → ElfCheck
bytes_check file i =
    where_so (has_bytes file i) (unless (lies_in (length file) (section_fields file i).sh_offset (section_fields file i).sh_size 1) (OutOfFile (section_header file i)))

-- the section headers, and the bytes of the sections
unfoldable pub sections_check : List ℕ → ElfCheck
sections_check file =
    unless (lies_in (length file) (header_fields file).e_shoff (section_count file) 64) (OutOfFile 40)
    >> each_below (section_count file) (bytes_check file)

-- a section's name is in the name table
unfoldable pub name_check : List ℕ → ℕ → ElfCheck
name_check file i = unless (has_text (section_fields file i).sh_name (section_bytes file (name_table file))) (Strings (section_header file i))

-- there are sections, and they have names
unfoldable pub has_names : List ℕ → Bool
has_names file = not (section_count file == 0) && not (name_table file == 0)

-- the name table, and the names of the sections
unfoldable pub names_check : List ℕ → ElfCheck
names_check file =
    where_so (has_names file) (unless (is_string_table file (name_table file)) (Strings 62) >> each_below (section_count file) (name_check file))
