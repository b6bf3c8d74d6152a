-- Which sections have relocations of call frame information (ELF64 gABI, "Relocation"; "Sections", sh_type, sh_info and sh_flags).
use Rattle.std.specs.Prelude.{◌≡◌, ℕ, zero, suc, ◌==◌, Bool, ◌||◌, ◌&&◌, not, List, [], ◌∷◌, ◌++◌, map, if◌then◌else◌}
use Rattle.std.specs.List.{filter}
use Rattle.elf_read.specs.Checking.{numbers_below}
use Rattle.elf_read.specs.Number.{has_flag}
use Rattle.elf_read.specs.Sections.{section_fields, section_count}
use Rattle.elf_read.specs.Used.{names_eh_frame}
use Rattle.elf_place.specs.declared.relocations.RelocationSection.{RelocationSection}

-- A section that relocates another: by its type, SHT_RELA 4, SHT_REL 9, or SHT_CREL 0x40000014, which is proposed for the gABI; or by its
-- flag SHF_INFO_LINK 0x40, which says that its info is a section's number, where its type is none of those that have something else:
-- SHT_NULL 0, SHT_PROGBITS 1, SHT_SYMTAB 2, SHT_STRTAB 3, SHT_NOBITS 8, SHT_GROUP 17, and SHT_X86_64_UNWIND 0x70000001 of the AMD64 psABI.
unfoldable pub may_relocate : List ℕ → ℕ → Bool
may_relocate file i =
    let kind = (section_fields file i).sh_type in
    ((kind == 4) || (kind == 9) || (kind == 0x40000014))
    || (has_flag (section_fields file i).sh_flags 0x40
    && not ((kind == 0) || (kind == 1) || (kind == 2) || (kind == 3) || (kind == 8) || (kind == 17) || (kind == 0x70000001)))

-- such a section, whose info is the number of the target, which is call frame information
unfoldable pub is_relocation_section : List ℕ → (target i : ℕ) → Bool
is_relocation_section file target i =
    let info = (section_fields file i).sh_info in
    may_relocate file i && names_eh_frame file info && (info == target)

-- all of them, in order of their numbers
abbrev pub relocation_sections : List ℕ → (target : ℕ) → List ℕ
relocation_sections file target = filter (is_relocation_section file target) (numbers_below (section_count file))

-- ---- Inside the crate
-- whether a type is one of relocations
abbrev pub is_relocation_type : ℕ → Bool
is_relocation_type kind = (kind == 4) || (kind == 9) || (kind == 0x40000014)

-- whether a type is one of something else
abbrev pub is_type_without_relocations : ℕ → Bool
is_type_without_relocations kind =
    (kind == 0) || (kind == 1) || (kind == 2) || (kind == 3) || (kind == 8) || (kind == 17) || (kind == 0x70000001)

-- a section with relocations of call frame information
unfoldable pub has_relocations : List ℕ → ℕ → Bool
has_relocations file i = may_relocate file i && names_eh_frame file (section_fields file i).sh_info

-- the numbers below n of sections with relocations of this one, in order
abbrev pub relocation_sections_below : List ℕ → (target : ℕ) → ℕ → List ℕ
relocation_sections_below file target n = filter (is_relocation_section file target) (numbers_below n)

-- ---- lists of them, as they are kept
-- Inside the crate: the section that the relocations are applied to
abbrev pub target_of : RelocationSection → ℕ
target_of s = s.target

-- the numbers of the sections that have the relocations
abbrev pub numbers_of : List RelocationSection → List ℕ
numbers_of list = map (λ (s : RelocationSection). s.number) list

-- Inside the crate: those of a list that are applied to this section
abbrev pub with_target : ℕ → List RelocationSection → List RelocationSection
with_target target list = filter (λ (s : RelocationSection). s.target == target) list

-- Inside the crate: section i as it is listed
abbrev pub as_listed : List ℕ → ℕ → RelocationSection
as_listed file i = record { target = (section_fields file i).sh_info; number = i }

-- Inside the crate: the sections below n that have relocations, in order of their numbers
unfoldable pub listed_below : List ℕ → ℕ → List RelocationSection
listed_below file zero = []
listed_below file (suc n) = if has_relocations file n then listed_below file n ++ as_listed file n ∷ [] else listed_below file n

-- Inside the crate: a list has the sections with relocations of each section, in order of their numbers
abbrev pub HasAll : List ℕ → List RelocationSection → Type 0
HasAll file list = (target : ℕ) → numbers_of (with_target target list) ≡ relocation_sections file target
