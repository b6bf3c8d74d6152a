-- The checks of a core file, in their order (Linux core files; ELF64 gABI, "Note Section").
use Rattle.std.specs.Prelude.{◌≡◌, ℕ, zero, suc, ◌==◌, Bool, true, false, ◌&&◌, ◌||◌, not, List, [], ◌∷◌, length, Result, Ok, Err, nat_le, if◌then◌else◌}
use Rattle.sf_model.specs.declared.machine.Arch.{Arch}
use Rattle.elf_read.specs.declared.kind.Kind.{Kind}
use Rattle.elf_read.specs.declared.kind.Kind.TheVariants.{Rel, Exec, Dyn, Core}
use Rattle.elf_read.specs.declared.fault.ElfFault.{ElfFault}
use Rattle.elf_read.specs.Checking.{unless, where_so, each_below, ◌>>◌}
use Rattle.elf_read.specs.Header.{arch_of, kind_of}
use Rattle.elf_read.specs.Parsing.{file_check}
use Rattle.elf_read.specs.Sections.{segment_count}
use Rattle.core_notes.specs.declared.fault.CoreFault.{CoreFault}
use Rattle.core_notes.specs.declared.fault.CoreFault.TheVariants.{Elf, NotCore, Note, StatusSize, NoThread, TooManyThreads}
use Rattle.core_notes.specs.declared.status.Thread.{Thread}
use Rattle.core_notes.specs.Note.{NoteView}
use Rattle.core_notes.specs.Listing.{NoteItem, notes_in, whole_notes}
use Rattle.core_notes.specs.TotalSize.{note_room_check}
use Rattle.core_notes.specs.Thread.{is_mask_note, is_status, status_size, threads_in}

-- what a check of a core file comes to: it passes, or has a fault
abbrev pub Check : Type 0
Check = Result (Unit {0}) CoreFault

-- a status has the machine's size; a mask after a thread has two numbers of eight bytes
unfoldable pub note_check : Arch → (after_thread : Bool) → NoteView → Check
note_check arch after_thread n =
    where_so (is_status n) (unless (length n.descriptor.left == status_size arch) (StatusSize n.place))
    >> where_so (after_thread && is_mask_note arch n) (unless (length n.descriptor.left == 16) (Note n.place))

-- each note in order; one that ends after its segment is a fault
unfoldable pub items_check : Arch → (after_thread : Bool) → List NoteItem → Check
items_check arch after_thread [] = Ok tt
items_check arch after_thread (Err place ∷ items) = Err (Note place)
items_check arch after_thread (Ok n ∷ items) = note_check arch after_thread n >> items_check arch (after_thread || is_status n) items

-- the notes up to the n-th status, with it
unfoldable pub through_status : (n : ℕ) → List NoteItem → List NoteItem
through_status zero items = []
through_status (suc n) [] = []
through_status (suc n) (Err place ∷ items) = Err place ∷ through_status (suc n) items
through_status (suc n) (Ok x ∷ items) = Ok x ∷ through_status (if is_status x then n else suc n) items

-- a check of the ELF file, whose fault is the core file's
abbrev pub elf_part : Result (Unit {0}) ElfFault → Check
elf_part (Ok x) = Ok tt
elf_part (Err fault) = Err (Elf fault)

-- the threads of a file
abbrev pub file_threads : List ℕ → List Thread
file_threads file = threads_in (arch_of file) (whole_notes (notes_in file))

-- there are at least one thread and at most 4096
abbrev pub thread_count_check : (threads : ℕ) → Check
thread_count_check threads = unless (not (threads == 0)) NoThread >> unless (nat_le threads 4096) TooManyThreads

-- the file is a core file: ET_CORE
abbrev pub is_core_kind : Kind → Bool
is_core_kind Rel = false
is_core_kind Exec = false
is_core_kind Dyn = false
is_core_kind Core = true

-- the checks after those of the ELF file: its kind, the room for its notes, each note up to the status of thread 4097, and how
-- many threads it has
unfoldable pub core_part : List ℕ → Check
core_part file =
    unless (is_core_kind (kind_of file)) NotCore
    >> elf_part (each_below (segment_count file) (note_room_check file))
    >> items_check (arch_of file) false (through_status 4097 (notes_in file))
    >> thread_count_check (length (file_threads file))

-- all checks: the first that fails is the file's fault
abbrev pub core_check : List ℕ → Check
core_check file = elf_part (file_check file) >> core_part file

-- these notes, which are all of a file, pass the checks, and so do their threads
pub record NotesPass (arch : Arch) (items : List NoteItem) : Type 0 where
  pub notes : items_check arch false (through_status 4097 items) ≡ Ok tt
  pub count : thread_count_check (length (threads_in arch (whole_notes items))) ≡ Ok tt
