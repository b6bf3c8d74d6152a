-- The files that a command reads, each of a kind, the limits of each kind, and which may be read by parts.
use Rattle.std.specs.Prelude.{◌^◌, ℕ, Bool, true, false, ◌||◌, not, List, map}
use Rattle.sf_model.specs.declared.form.Form.{Form}
use Rattle.sf_model.specs.declared.form.Form.TheVariants.{Elf, Bare}
use Rattle.sf_parts.specs.declared.file_read.FileRead.TheVariants.{Linked, Whole}
use Rattle.sf_words.specs.declared.item.Item.{Item}
use Rattle.sf_words.specs.declared.item.Item.TheVariants as item
use Rattle.sf_words.specs.declared.item_read.ItemRead.{ItemRead}
use Rattle.sf_words.specs.declared.item_read.ItemRead.TheVariants as read
use Rattle.sf_words.specs.Words.{InputWords, SectionWords, input_of, words_of_section}

-- a file that a command reads: an input, a section, the core file of this name, or the ELF file of this name that was mapped
pub data ItemWords : Type 0 where
  Input : InputWords → ItemWords
  Section : SectionWords → ItemWords
  Core : (name : List ℕ) → ItemWords
  Mapped : (name : List ℕ) → ItemWords

-- the item, without where its name is in memory
abbrev pub item_of : Item → ItemWords
item_of (item.Input input) = Input (input_of input)
item_of (item.Section section) = Section (words_of_section section)
item_of (item.Core name) = Core name.now
item_of (item.Mapped name) = Mapped name.now

abbrev pub name_of : ItemWords → List ℕ
name_of (Input input) = input.name
name_of (Section section) = section.name
name_of (Core name) = name
name_of (Mapped name) = name

-- the most bytes of one file of its kind; a mapped file has an input's
abbrev pub limit_of : ItemWords → ℕ
limit_of (Input input) = 2 ^ 28
limit_of (Section section) = 2 ^ 29
limit_of (Core name) = 2 ^ 40
limit_of (Mapped name) = 2 ^ 28

-- the most bytes that are read of one file of its kind: of a core file fewer than it may have
abbrev pub most_read : ItemWords → ℕ
most_read (Input input) = 2 ^ 28
most_read (Section section) = 2 ^ 29
most_read (Core name) = 2 ^ 30
most_read (Mapped name) = 2 ^ 28

-- how many of a file's bytes count for the limit of all files of a run: all but a core's
abbrev pub counted_bytes : ItemWords → (bytes : ℕ) → ℕ
counted_bytes (Input input) bytes = bytes
counted_bytes (Section section) bytes = bytes
counted_bytes (Core name) bytes = 0
counted_bytes (Mapped name) bytes = bytes

-- ---- what is read of a file
-- whether an input is an ELF file, and no bare section
abbrev pub is_elf : Form → Bool
is_elf Elf = true
is_elf (Bare arch) = false

-- whether a file is linked as an ELF file
abbrev pub is_elf_input : ItemWords → Bool
is_elf_input (Input input) = is_elf input.form
is_elf_input (Section section) = false
is_elf_input (Core name) = false
is_elf_input (Mapped name) = false

-- whether a file is a core file
abbrev pub is_core : ItemWords → Bool
is_core (Input input) = false
is_core (Section section) = false
is_core (Core name) = true
is_core (Mapped name) = false

-- whether a file is one that a process may have had mapped
abbrev pub is_mapped : ItemWords → Bool
is_mapped (Input input) = false
is_mapped (Section section) = false
is_mapped (Core name) = false
is_mapped (Mapped name) = true

-- whether a file of this kind may be read by its parts: an ELF file that is linked, one that may have been mapped, or a core file
abbrev pub may_be_by_parts : ItemWords → Bool
may_be_by_parts item = is_elf_input item || (is_mapped item || is_core item)

-- whether a file of this kind may be read so: by the parts of an ELF file only if it is linked as one, whole as an input or a section,
-- and as a mapped file or a core file only if it is one
abbrev pub suits : ItemWords → ItemRead → Bool
suits item (read.File (Linked elf)) = is_elf_input item
suits item (read.File (Whole bytes)) = not (is_mapped item || is_core item)
suits item (read.Mapped mapped) = is_mapped item
suits item (read.Core core) = is_core item

-- ---- lists of files
-- the names of these files
abbrev pub names_of : List ItemWords → List (List ℕ)
names_of items = map name_of items
