-- What is said of a core file by parts of it: it is said of each list of bytes that these are parts of.
use Rattle.std.specs.Prelude.{◌≡◌, ℕ, ◌∷◌, [], List, Ok, map, length, filter}
use Rattle.std.specs.Option.{option_map}
use Rattle.sf_bytes.specs.Cursor.{Cursor}
use Rattle.sf_bytes.specs.declared.file_part.FilePart.{FilePart}
use Rattle.sf_bytes.specs.Parts.{AreParts}
use Rattle.sf_model.specs.declared.machine.Arch.{Arch}
use Rattle.sf_parts.specs.declared.file_parts.FileParts.{FileParts}
use Rattle.elf_read.specs.Header.{arch_of}
use Rattle.core_notes.specs.declared.status.Thread.{Thread}
use Rattle.core_notes.specs.Checks.{NotesPass, core_check, file_threads}
use Rattle.core_notes.specs.Listing.{notes_from, notes_in, whole_notes}
use Rattle.core_notes.specs.MemoryBytes.{load_spans}
use Rattle.core_notes.specs.Segment.{segments}
use Rattle.core_notes.specs.Thread.{file_note_in, threads_in}
use Rattle.core_parts.specs.declared.core_head.CoreHead.{CoreHead}
use Rattle.core_parts.specs.declared.segment.SegmentHead.{SegmentHead}
use Rattle.core_parts.specs.Heads.{head_span, is_note, segment_in}
use Rattle.core_parts.specs.Table.{AreHeads}

-- these may be all the bytes of the file of which the parts were read
pub record IsWholeOf (parts : FileParts) (whole : List ℕ) : Type 0 where
  pub len : length whole ≡ parts.len
  pub are : AreParts whole parts.parts.items

-- the bytes of a part, with their place
abbrev pub part_cursor : FilePart → Cursor
part_cursor part = record { place = part.place; left = part.bytes.items }

-- ---- Inside the crate
-- the file is a core file that passes every check, with this machine, these segments, these threads, and this note on mapped files
pub record IsHeadOf (head : CoreHead) (whole : List ℕ) : Type 0 where
  pub checked : core_check whole ≡ Ok tt
  pub machine : arch_of whole ≡ head.arch
  pub segments_are : segments whole ≡ map (segment_in whole) head.heads.items
  pub threads_are : file_threads whole ≡ head.threads.items
  pub loads_are : load_spans whole ≡ map head_span head.heads.items
  pub note_is : file_note_in (whole_notes (notes_in whole)) ≡ option_map part_cursor head.file_note

-- the part is the one segment of notes, whose notes pass every check and have these threads
pub record AreThreads (arch : Arch) (heads : List SegmentHead) (notes : FilePart) (threads : List Thread) : Type 0 where
  pub note : SegmentHead
  pub only : filter is_note heads ≡ note ∷ []
  pub place : note.place ≡ notes.place
  pub size : note.size ≡ length notes.bytes.items
  pub pass : NotesPass arch (notes_from (part_cursor notes))
  pub threads_are : threads ≡ threads_in arch (whole_notes (notes_from (part_cursor notes)))

-- these parts of a file of this length are a core file's header, its program headers and its notes, and say this
pub record AreRead (header table notes : FilePart) (len : ℕ) (head : CoreHead) : Type 0 where
  pub at_start : header.place ≡ 0
  pub whole_header : length header.bytes.items ≡ 64
  pub heads_are : AreHeads header.bytes.items table len head.heads.items
  pub arch_is : head.arch ≡ arch_of header.bytes.items
  pub threads_are : AreThreads head.arch head.heads.items notes head.threads.items
  pub note_is : file_note_in (whole_notes (notes_from (part_cursor notes))) ≡ option_map part_cursor head.file_note
