-- The file header and the program headers (ELF64 gABI, "ELF Header" and "Program Header").
use Rattle.std.specs.Prelude.{ℕ, ◌+◌, ◌*◌, ◌==◌, Bool, List, drop, if◌then◌else◌}
use Rattle.sf_model.specs.declared.machine.Arch.{Arch}
use Rattle.sf_model.specs.declared.machine.Arch.TheVariants.{Amd64, Aarch64}
use Rattle.elf_read.specs.declared.kind.Kind.{Kind}
use Rattle.elf_read.specs.declared.kind.Kind.TheVariants.{Rel, Exec, Dyn, Core}
use Rattle.elf_read.specs.Number.{field_at}

-- the file header (Elf64_Ehdr): each field's width and place
pub record FileHeader : Type 0 where
  -- the first four bytes of e_ident, EI_MAG0 to EI_MAG3
  pub ei_mag : ℕ
  pub ei_class : ℕ
  pub ei_data : ℕ
  pub ei_version : ℕ
  pub e_type : ℕ
  pub e_machine : ℕ
  pub e_version : ℕ
  pub e_phoff : ℕ
  pub e_shoff : ℕ
  pub e_phentsize : ℕ
  pub e_phnum : ℕ
  pub e_shentsize : ℕ
  pub e_shnum : ℕ
  pub e_shstrndx : ℕ

-- the file header of a file
unfoldable pub header_fields : List ℕ → FileHeader
header_fields file = record {
  ei_mag = field_at 4 0 file;
  ei_class = field_at 1 4 file;
  ei_data = field_at 1 5 file;
  ei_version = field_at 1 6 file;
  e_type = field_at 2 16 file;
  e_machine = field_at 2 18 file;
  e_version = field_at 4 20 file;
  e_phoff = field_at 8 32 file;
  e_shoff = field_at 8 40 file;
  e_phentsize = field_at 2 54 file;
  e_phnum = field_at 2 56 file;
  e_shentsize = field_at 2 58 file;
  e_shnum = field_at 2 60 file;
  e_shstrndx = field_at 2 62 file;
}

-- the kind of a file: ET_REL 1, ET_EXEC 2, ET_DYN 3, ET_CORE 4
unfoldable pub kind_of : List ℕ → Kind
kind_of file = if (header_fields file).e_type == 1 then Rel else (if (header_fields file).e_type == 2 then Exec else (if (header_fields file).e_type == 3 then Dyn else Core))

-- whether the file is a core file: ET_CORE 4
abbrev pub is_core : List ℕ → Bool
is_core file = (header_fields file).e_type == 4

-- whether the file is an object that is not linked yet: ET_REL 1
abbrev pub is_rel : List ℕ → Bool
is_rel file = (header_fields file).e_type == 1

-- the machine of a file: EM_X86_64 62, EM_AARCH64 183
unfoldable pub arch_of : List ℕ → Arch
arch_of file = if (header_fields file).e_machine == 62 then Amd64 else Aarch64

-- the place of a program header
abbrev pub program_header : List ℕ → ℕ → ℕ
program_header file i = (header_fields file).e_phoff + 56 * i

-- a field of a program header
abbrev pub p_field : ℕ → ℕ → List ℕ → ℕ → ℕ
p_field width place file i = field_at width (56 * i + place) (drop (header_fields file).e_phoff file)

-- the type of a segment
unfoldable pub p_type : List ℕ → ℕ → ℕ
p_type file i = p_field 4 0 file i

-- the place of a segment's bytes in the file
unfoldable pub p_offset : List ℕ → ℕ → ℕ
p_offset file i = p_field 8 8 file i

-- the address of a segment
unfoldable pub p_vaddr : List ℕ → ℕ → ℕ
p_vaddr file i = p_field 8 16 file i

-- the number of a segment's bytes in the file
unfoldable pub p_filesz : List ℕ → ℕ → ℕ
p_filesz file i = p_field 8 32 file i
