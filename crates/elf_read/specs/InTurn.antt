-- Inside the crate. The checks of an ELF64 file one after the other, as the code makes them. `Parsing.antt` has them as a table.
use Rattle.std.specs.Prelude.{ℕ, List, if◌then◌else◌}
use Rattle.elf_read.specs.Header.{is_core}
use Rattle.elf_read.specs.Sections.{section_count}
use Rattle.elf_read.specs.Checking.{◌>>◌, where_so, each_below}
use Rattle.elf_read.specs.Checks.{ElfCheck, identity_check, purpose_check, needs_sections, first_section_check, core_check, sections_check, names_check}
use Rattle.elf_read.specs.TotalSize.{room_check}
use Rattle.elf_read.specs.Used.{rela_check, group_check, compressed_check, entries_check}

-- the used sections of a file that is no core file
unfoldable pub used_check : List ℕ → ElfCheck
used_check file =
    each_below (section_count file) (rela_check file)
    >> each_below (section_count file) (room_check file)
    >> each_below (section_count file) (group_check file)
    >> compressed_check file
    >> each_below (section_count file) (entries_check file)

-- section 0's header, where it is needed
unfoldable pub table_check : List ℕ → ElfCheck
table_check file = where_so (needs_sections file) (first_section_check file)

-- everything after the file header and section 0's header
unfoldable pub content_check : List ℕ → ElfCheck
content_check file = if is_core file then core_check file else (sections_check file >> names_check file >> used_check file)

-- all of them
unfoldable pub checks_in_turn : List ℕ → ElfCheck
checks_in_turn file =
    identity_check file >> purpose_check file >> table_check file >> content_check file
