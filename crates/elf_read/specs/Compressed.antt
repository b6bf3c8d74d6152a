-- Which sections are used, and the first of them that is compressed (ELF64 gABI, "Section Groups", "Relocation", "Symbol Table",
-- "Compressed Sections").
use Rattle.std.specs.Prelude.{◌≡◌, ◌⊎◌, ◌<◌, ◌≤◌, ◌||◌, ℕ, true, false, List, Ok, Err}
use Rattle.elf_read.specs.declared.fault.ElfFault.TheVariants.{Compressed}
use Rattle.elf_read.specs.Checks.{ElfCheck}
use Rattle.elf_read.specs.Sections.{section_header, section_fields, section_count, is_compressed, is_eh_frame}
use Rattle.elf_read.specs.Used.{is_used_rela, is_group}

-- because of section j, section i is used: j itself, call frame information or what belongs to it; the symbol table that j names; and
-- where j is a group the names of that table's symbols
abbrev pub IsUsedBy : List ℕ → (j i : ℕ) → Type 0
IsUsedBy file j i =
    ((i ≡ j) × ((is_eh_frame file j || (is_used_rela file j || is_group file j)) ≡ true))
    ⊎ (((i ≡ (section_fields file j).sh_link) × ((is_used_rela file j || is_group file j) ≡ true))
    ⊎ ((i ≡ (section_fields file (section_fields file j).sh_link).sh_link) × (is_group file j ≡ true)))

-- because of one of the file's sections
pub record IsUsed (file : List ℕ) (i : ℕ) : Type 0 where
  pub by : ℕ
  pub within : by < section_count file
  pub used : IsUsedBy file by i

-- the least number of a section that is used and compressed
pub record IsFirstCompressed (file : List ℕ) (i : ℕ) : Type 0 where
  pub used : IsUsed file i
  pub compressed : is_compressed file i ≡ true
  pub least : (k : ℕ) → IsUsed file k → is_compressed file k ≡ true → i ≤ k

-- no used section is compressed, or the first one that is is refused
abbrev pub NoneIsCompressed : List ℕ → ElfCheck → Type 0
NoneIsCompressed file (Ok u) = (k : ℕ) → IsUsed file k → is_compressed file k ≡ false
NoneIsCompressed file (Err e) = (i : ℕ) × (e ≡ Compressed (section_header file i)) × IsFirstCompressed file i
