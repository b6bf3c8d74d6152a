-- What a core file that was checked shows (Linux core files).
use Rattle.std.specs.Prelude.{ℕ, List}
use Rattle.sf_model.specs.Memory.{Region}
use Rattle.elf_read.specs.Header.{arch_of}
use Rattle.elf_read.specs.Views.{file}
use Rattle.core_notes.specs.declared.status.Thread.{Thread}
use Rattle.core_notes.specs.declared.iter.ThreadIter.{ThreadIter}
use Rattle.core_notes.specs.declared.view.Core.{Core}
use Rattle.core_notes.specs.Note.{NoteView}
use Rattle.core_notes.specs.Listing.{notes_in, notes_remaining, whole_notes}
use Rattle.core_notes.specs.Thread.{threads_in}
use Rattle.core_notes.specs.Memory.{file_regions}

-- the bytes of the whole file
abbrev pub core_bytes : Core → List ℕ
core_bytes core = file core.elf

-- its notes
abbrev pub notes_of : Core → List NoteView
notes_of core = whole_notes (notes_in (core_bytes core))

-- its threads
abbrev pub threads_of : Core → List Thread
threads_of core = threads_in (arch_of (core_bytes core)) (notes_of core)

-- its memory
abbrev pub memory_of : Core → List Region
memory_of core = file_regions (core_bytes core)

-- the threads that an iterator has left
abbrev pub threads_left : ThreadIter → List Thread
threads_left it = threads_in it.arch (whole_notes (notes_remaining it.notes))
