-- What a core file is (ELF64 gABI, "Note Section" and "Program Header"; Linux core files): a relation between its bytes and its
-- notes, apart from how they are read.
use Rattle.std.specs.Prelude.{◌≡◌, ℕ, ◌≤◌, ◌==◌, Bool, ◌||◌, not, List, [], ◌∷◌, length, Ok, IsTrue, if◌then◌else◌}
use Rattle.std.specs.List.{list_all}
use Rattle.sf_model.specs.declared.machine.Arch.{Arch}
use Rattle.elf_read.specs.declared.kind.Kind.TheVariants as kinds
use Rattle.elf_read.specs.Header.{arch_of, kind_of}
use Rattle.elf_read.specs.Parsing.{file_check}
use Rattle.core_notes.specs.Note.{NoteView}
use Rattle.core_notes.specs.Listing.{AreNotes}
use Rattle.core_notes.specs.TotalSize.{HasNoteRoom}
use Rattle.core_notes.specs.Segment.{segments}
use Rattle.core_notes.specs.Thread.{is_mask_note, is_status, status_size, threads_in}

-- a status has the machine's size
abbrev pub status_fits : Arch → NoteView → Bool
status_fits arch n = not (is_status n) || (length n.descriptor.left == status_size arch)

-- a mask note has two numbers of eight bytes
abbrev pub mask_fits : Arch → NoteView → Bool
mask_fits arch n = not (is_mask_note arch n) || (length n.descriptor.left == 16)

-- the notes after the first status: those before it are of no thread
abbrev pub after_first_status : List NoteView → List NoteView
after_first_status [] = []
after_first_status (n ∷ ns) = if is_status n then ns else after_first_status ns

-- these are the notes of a core file
pub record IsCore (file : List ℕ) (notes : List NoteView) : Type 0 where
  pub elf : file_check file ≡ Ok tt
  pub kind : kind_of file ≡ kinds.Core
  pub room : HasNoteRoom file
  pub notes_are : AreNotes (segments file) notes
  pub statuses : IsTrue (list_all (status_fits (arch_of file)) notes)
  pub masks : IsTrue (list_all (mask_fits (arch_of file)) (after_first_status notes))
  pub some : 1 ≤ length (threads_in (arch_of file) notes)
  pub most : length (threads_in (arch_of file) notes) ≤ 4096
