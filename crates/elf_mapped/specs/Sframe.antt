-- The SFrame section of an executable or a shared object (ELF64 gABI, "Sections").
use Rattle.std.specs.Prelude.{ℕ, ◌==◌, Bool, ◌&&◌, not, List, [], ◌∷◌, bytes_eq, Option, Some, None, Ok}
use Rattle.std.specs.List.{find, range_with_len}
use Rattle.elf_read.specs.declared.fault.ElfFault.TheVariants.{Compressed}
use Rattle.elf_read.specs.Checking.{unless}
use Rattle.elf_read.specs.Checks.{ElfCheck}
use Rattle.elf_read.specs.Sections.{is_allocated, is_compressed, section_count, section_fields, section_header, section_name}

-- the name ".sframe"
abbrev pub sframe_text : List ℕ
sframe_text = 46 ∷ 115 ∷ 102 ∷ 114 ∷ 97 ∷ 109 ∷ 101 ∷ []

-- the section is loaded, has the name `.sframe`, and is not of type SHT_NOBITS 8
unfoldable pub is_sframe : List ℕ → (i : ℕ) → Bool
is_sframe file i = is_allocated file i && bytes_eq (section_name file i) sframe_text && not ((section_fields file i).sh_type == 8)

-- the number of the first such section
unfoldable pub sframe_section : List ℕ → Option ℕ
sframe_section file = find (is_sframe file) (range_with_len 0 (section_count file))

-- the section, if there is one, is not compressed
abbrev pub sframe_check : List ℕ → (section : Option ℕ) → ElfCheck
sframe_check file None = Ok tt
sframe_check file (Some i) = unless (not (is_compressed file i)) (Compressed (section_header file i))
