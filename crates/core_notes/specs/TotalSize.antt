-- The room in the file for the PT_NOTE segments, which are read whole (ELF64 gABI, "Program Header" and "Note Section"): no byte
-- of the file is in two of them.
use Rattle.std.specs.Prelude.{ℕ, zero, suc, ◌+◌, ◌<◌, ◌≤◌, List, length, nat_le, if◌then◌else◌}
use Rattle.elf_read.specs.declared.fault.ElfFault.TheVariants.{OutOfFile}
use Rattle.elf_read.specs.Checking.{unless}
use Rattle.elf_read.specs.Checks.{ElfCheck}
use Rattle.elf_read.specs.Header.{program_header}
use Rattle.elf_read.specs.Sections.{segment_count}
use Rattle.core_notes.specs.Segment.{SegmentView, holds_notes, segment_of}

-- how many bytes of notes a segment has
abbrev pub note_size : SegmentView → ℕ
note_size s = if holds_notes s then length s.bytes else 0

-- how many bytes of notes the first n segments have together
unfoldable pub note_size_below : List ℕ → ℕ → ℕ
note_size_below file zero = 0
note_size_below file (suc n) = note_size_below file n + note_size (segment_of file n)

-- the file has room for the notes of the segments up to this one
unfoldable pub note_room_check : List ℕ → ℕ → ElfCheck
note_room_check file i = unless (nat_le (note_size_below file (suc i)) (length file)) (OutOfFile (program_header file i))

-- the file has room for the notes of each number of its first segments
abbrev pub HasNoteRoom : List ℕ → Type 0
HasNoteRoom file = (n : ℕ) → n ≤ segment_count file → note_size_below file n ≤ length file

-- the first n program headers begin in the file
abbrev pub HeadersLie : List ℕ → ℕ → Type 0
HeadersLie file n = (i : ℕ) → i < n → program_header file i < length file
