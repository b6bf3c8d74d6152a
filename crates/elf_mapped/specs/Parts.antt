-- Inside the crate. What the parts of an executable or a shared object are (ELF64 gABI, "Program Header" and "Note Section").
use Rattle.std.specs.Prelude.{◌≡◌, ℕ, ◌+◌, ◌*◌, ◌^◌, ◌<◌, false, List, length, slice_index_or, Option, Ok, IfSome}
use Rattle.std.specs.Option.{option_map}
use Rattle.sf_bytes.specs.Cursor.{Cursor}
use Rattle.sf_bytes.specs.declared.file_part.FilePart.{FilePart}
use Rattle.elf_read.specs.Checking.{each_below}
use Rattle.elf_read.specs.Checks.{program_headers_check}
use Rattle.elf_read.specs.Header.{header_fields}
use Rattle.elf_read.specs.Linked.{linked_file}
use Rattle.elf_read.specs.Number.{text_in, window}
use Rattle.elf_read.specs.Sections.{is_compressed, section_bytes, section_count, section_fields, section_name, segment_total}
use Rattle.core_notes.specs.Listing.{notes_from, segment_items}
use Rattle.core_notes.specs.TotalSize.{note_room_check, note_size}
use Rattle.core_notes.specs.Segment.{segment_of}
use Rattle.elf_mapped.specs.declared.parts.ProgramParts.{ProgramParts}
use Rattle.elf_mapped.specs.declared.sframe.Sframe.{Sframe}
use Rattle.elf_mapped.specs.declared.table.Table.{Table}
use Rattle.elf_mapped.specs.Sframe.{sframe_section}

-- all the bytes of the file whose program headers these are
abbrev pub table_file : Table → List ℕ
table_file table = linked_file table.linked.now

-- the bytes of a part, with their place
abbrev pub part_cursor : FilePart → Cursor
part_cursor part = record { place = part.place; left = part.bytes.items }

-- these bytes are those of the name table: sections have their names in it
abbrev pub IsNameTable : List ℕ → (names : List ℕ) → Type 0
IsNameTable file names = (i : ℕ) → section_name file i ≡ text_in (section_fields file i).sh_name names

-- the part is the notes of a segment; it has no bytes if the segment is no PT_NOTE
pub record IsNotePart (file : List ℕ) (i : ℕ) (part : FilePart) : Type 0 where
  pub notes : notes_from (part_cursor part) ≡ segment_items (segment_of file i)
  pub size : length part.bytes.items ≡ note_size (segment_of file i)
  pub fits : part.place + length part.bytes.items < 2 ^ 64

-- each is that of the segment of its number
abbrev pub AreNoteParts : List ℕ → List FilePart → Type 0
AreNoteParts file parts = (i : ℕ) (d : FilePart) → i < length parts → IsNotePart file i (slice_index_or parts i d)

-- this is the file's SFrame section, which is not compressed, if the file has one
pub record IsSframe (file : List ℕ) (sframe : Option Sframe) : Type 0 where
  pub section : sframe_section file ≡ option_map (λ s. s.number) sframe
  pub within : IfSome sframe (λ s. s.number < section_count file)
  pub bytes : IfSome sframe (λ s. s.bytes.items ≡ section_bytes file s.number)
  pub plain : IfSome sframe (λ s. is_compressed file s.number ≡ false)

-- the program headers can be read, the PT_NOTE segments have room in the file together, and these are its parts
pub record HasParts (file : List ℕ) (parts : ProgramParts) : Type 0 where
  pub headers : program_headers_check file ≡ Ok tt
  pub counted : parts.count ≡ segment_total file
  pub table_is : parts.table.items ≡ window (header_fields file).e_phoff (56 * parts.count) file
  pub notes_len : length parts.notes.items ≡ parts.count
  pub notes_are : AreNoteParts file parts.notes.items
  pub room : each_below parts.count (note_room_check file) ≡ Ok tt
  pub sframe : IsSframe file parts.sframe
