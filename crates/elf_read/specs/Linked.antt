-- Executables and shared objects that have sections with names (ELF64 gABI, "ELF Header", "Sections").
use Rattle.std.specs.Prelude.{◌≡◌, ◌==◌, ◌<◌, ◌*◌, ℕ, true, false, List, Ok}
use Rattle.sf_bytes.specs.Parts.{IsPart}
use Rattle.elf_read.specs.declared.headers.Headers.{Headers}
use Rattle.elf_read.specs.declared.linked_elf.LinkedElf.{LinkedElf}
use Rattle.elf_read.specs.declared.linked_parts.LinkedParts.{LinkedParts}
use Rattle.elf_read.specs.Checks.{identity_check, purpose_check}
use Rattle.elf_read.specs.Header.{header_fields, is_core, is_rel}
use Rattle.elf_read.specs.Number.{window}
use Rattle.elf_read.specs.Parsing.{file_check}
use Rattle.elf_read.specs.Sections.{section_bytes, section_count, is_eh_frame}

-- what the file header of such a file says: neither e_shnum nor e_shstrndx is in section 0's header (SHN_XINDEX 0xffff)
pub record IsLinkedHead (file : List ℕ) : Type 0 where
  pub identity : identity_check file ≡ Ok tt
  pub purpose : purpose_check file ≡ Ok tt
  pub no_object : is_rel file ≡ false
  pub no_core : is_core file ≡ false
  pub entry : (header_fields file).e_shentsize ≡ 64
  pub place : ((header_fields file).e_shoff == 0) ≡ false
  pub count : ((header_fields file).e_shnum == 0) ≡ false
  pub names : ((header_fields file).e_shstrndx == 0xffff) ≡ false
  pub named : ((header_fields file).e_shstrndx == 0) ≡ false

-- a section holds call frame information, and no other one does
pub record IsOnlyEhFrame (file : List ℕ) (i : ℕ) : Type 0 where
  pub within : i < section_count file
  pub is : is_eh_frame file i ≡ true
  pub only : (k : ℕ) → k < section_count file → is_eh_frame file k ≡ true → k ≡ i

-- each is a part of the file
pub record AreLinkedParts (file : List ℕ) (parts : LinkedParts) : Type 0 where
  pub header : IsPart file parts.header
  pub sections : IsPart file parts.sections
  pub names : IsPart file parts.names
  pub eh_frame : IsPart file parts.eh_frame

-- all the bytes of a file that was checked by its parts
abbrev pub linked_file : LinkedElf → List ℕ
linked_file elf = elf.whole.numbers

-- ---- Inside the crate
-- all the bytes of the file whose headers these are
abbrev pub whole_of : Headers → List ℕ
whole_of headers = headers.whole.now.numbers

-- the file passes all checks, and its parts are the file header, `count` section headers, and the bytes of the one section with call frame information
pub record HasLinkedParts (file : List ℕ) (parts : LinkedParts) (count eh_frame : ℕ) : Type 0 where
  pub header : parts.header.bytes.items ≡ window 0 64 file
  pub sections : parts.sections.bytes.items ≡ window (header_fields file).e_shoff (64 * count) file
  pub counted : count ≡ section_count file
  pub bytes : parts.eh_frame.bytes.items ≡ section_bytes file eh_frame
  pub checked : file_check file ≡ Ok tt
  pub head : IsLinkedHead file
  pub only : IsOnlyEhFrame file eh_frame
