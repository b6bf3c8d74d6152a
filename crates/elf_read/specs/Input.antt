-- A file to link, in either of its two forms.
use Rattle.std.specs.Prelude.{◌≡◌, ◌<◌, ℕ, false, List}
use Rattle.elf_read.specs.declared.input.ElfInput.{ElfInput}
use Rattle.elf_read.specs.declared.input.ElfInput.TheVariants.{Whole, Linked}
use Rattle.elf_read.specs.Header.{is_rel}
use Rattle.elf_read.specs.Linked.{linked_file}
use Rattle.elf_read.specs.Sections.{section_count}
use Rattle.elf_read.specs.Views.{file as elf_file}

-- all the bytes of the file
abbrev pub file : ElfInput → List ℕ
file (Whole elf) = elf_file elf
file (Linked elf) = linked_file elf.now

-- the number of a section, if the file isn't an object
abbrev pub IsSection : List ℕ → ℕ → Type 0
IsSection bytes i = is_rel bytes ≡ false → i < section_count bytes
