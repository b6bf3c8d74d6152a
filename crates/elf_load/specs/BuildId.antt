-- The build identifier of a file (ELF64 gABI, "Note Section"; GNU NT_GNU_BUILD_ID).
use Rattle.std.specs.Prelude.{ℕ, Bool, List, [], ◌∷◌, Option}
use Rattle.std.specs.List.{find, flat_map}
use Rattle.std.specs.Option.{option_map}
use Rattle.sf_bytes.specs.Cursor.{Cursor}
use Rattle.core_notes.specs.Note.{NoteView}
use Rattle.core_notes.specs.SegmentNotes.{segment_notes}
use Rattle.core_notes.specs.Thread.{has_name_and_type}
use Rattle.elf_load.specs.Segments.{header_numbers}

-- "GNU" and its zero byte
abbrev pub gnu_name : List ℕ
gnu_name = 71 ∷ 78 ∷ 85 ∷ 0 ∷ []

-- the note is a build identifier: NT_GNU_BUILD_ID 3
abbrev pub is_build_id : NoteView → Bool
is_build_id n = has_name_and_type gnu_name 3 n

-- the first of some notes that is a build identifier: its descriptor, with the place in the file
abbrev pub first_id : List NoteView → Option Cursor
first_id notes = option_map (λ (n : NoteView). n.descriptor) (find is_build_id notes)

-- the file's build identifier: the first one of the notes of its segments, in their order
unfoldable pub build_id : List ℕ → Option Cursor
build_id file = first_id (flat_map (segment_notes file) (header_numbers file))
