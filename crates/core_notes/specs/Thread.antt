-- The threads of a core file (Linux core files; psABIs for the registers): each NT_PRSTATUS note is a thread, and the notes up
-- to the next one are of that thread.
use Rattle.std.specs.Prelude.{ℕ, ◌==◌, Bool, true, false, ◌&&◌, List, [], ◌∷◌, Option, Some, None, if◌then◌else◌}
use Rattle.std.specs.Cmp.Lexicographic.{pointwise}
use Rattle.std.specs.List.{find}
use Rattle.std.specs.Option.{option_map}
use Rattle.sf_bytes.specs.Cursor.{Cursor}
use Rattle.sf_model.specs.declared.machine.Arch.{Arch}
use Rattle.sf_model.specs.declared.machine.Arch.TheVariants.{Amd64, Aarch64}
use Rattle.elf_read.specs.Number.{field_at}
use Rattle.core_notes.specs.declared.status.Thread.{Thread}
use Rattle.core_notes.specs.Note.{NoteView}

-- "CORE" and its zero byte
abbrev pub core_name : List ℕ
core_name = 67 ∷ 79 ∷ 82 ∷ 69 ∷ 0 ∷ []

-- "LINUX" and its zero byte
abbrev pub linux_name : List ℕ
linux_name = 76 ∷ 73 ∷ 78 ∷ 85 ∷ 88 ∷ 0 ∷ []

-- the note has this name and type
unfoldable pub has_name_and_type : (name : List ℕ) → (kind : ℕ) → NoteView → Bool
has_name_and_type name kind n = (n.kind == kind) && pointwise (λ (a b : ℕ). a == b) n.name name

-- the note is a thread's status: NT_PRSTATUS 1
abbrev pub is_status : NoteView → Bool
is_status n = has_name_and_type core_name 1 n

-- the note lists the mapped files: NT_FILE 0x46494c45
abbrev pub is_file_note : NoteView → Bool
is_file_note n = has_name_and_type core_name 0x46494c45 n

-- the descriptor of the first note on mapped files, with its place
abbrev pub file_note_in : List NoteView → Option Cursor
file_note_in notes = option_map (λ (n : NoteView). n.descriptor) (find is_file_note notes)

-- the machine is AArch64
abbrev pub is_aarch64 : Arch → Bool
is_aarch64 Amd64 = false
is_aarch64 Aarch64 = true

-- the note has a thread's masks, which AArch64 alone has: NT_ARM_PAC_MASK 0x406
abbrev pub is_mask_note : Arch → NoteView → Bool
is_mask_note arch n = is_aarch64 arch && has_name_and_type linux_name 0x406 n

-- the size of a status
abbrev pub status_size : Arch → ℕ
status_size Amd64 = 336
status_size Aarch64 = 392

-- the thread of a status, with its mask: rsp, rbp and rip, or sp, x29, x30 and pc
unfoldable pub thread_of : Arch → (status : List ℕ) → (mask : Option ℕ) → Thread
thread_of Amd64 status mask = record {
  pid = field_at 4 32 status;
  pc = field_at 8 240 status;
  regs = record { sp = field_at 8 264 status; fp = field_at 8 144 status; lr = 0 };
  mask = mask;
}
thread_of Aarch64 status mask = record {
  pid = field_at 4 32 status;
  pc = field_at 8 368 status;
  regs = record { sp = field_at 8 360 status; fp = field_at 8 344 status; lr = field_at 8 352 status };
  mask = mask;
}

-- the mask of instruction addresses; that of data addresses is before it
abbrev pub mask_in : NoteView → ℕ
mask_in n = field_at 8 8 n.descriptor.left

-- a later mask, or else the mask of this note, if it has one
abbrev pub mask_or : Arch → NoteView → (later : Option ℕ) → Option ℕ
mask_or arch n (Some mask) = Some mask
mask_or arch n None = if is_mask_note arch n then Some (mask_in n) else None

-- the last mask before the next thread
unfoldable pub own_mask : Arch → List NoteView → Option ℕ
own_mask arch [] = None
own_mask arch (n ∷ ns) = if is_status n then None else mask_or arch n (own_mask arch ns)

-- the threads, in the order of their notes
unfoldable pub threads_in : Arch → List NoteView → List Thread
threads_in arch [] = []
threads_in arch (n ∷ ns) =
    if is_status n then thread_of arch n.descriptor.left (own_mask arch ns) ∷ threads_in arch ns else threads_in arch ns
