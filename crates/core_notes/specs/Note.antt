-- Notes (ELF64 gABI, "Note Section"): three words, which are the name's size, the descriptor's size and the type; then the
-- name and the descriptor, each padded to a multiple of 4 bytes. The padding may end with the segment.
use Rattle.std.specs.Prelude.{◌≡◌, ℕ, ◌-◌, ◌%◌, List, length, min, Ok}
use Rattle.sf_bytes.specs.Cursor.{Cursor, Read, ◌>>=◌, cursor, past, number_at, part_at}
use Rattle.sf_bytes.specs.Standing.{Passes, Stands, Number, Bytes}
use Rattle.core_notes.specs.declared.note.Note.{Note}

-- a note: its place in the file, its name, its type, and its descriptor with the place of that
pub record NoteView : Type 0 where
  pub place : ℕ
  pub name : List ℕ
  pub kind : ℕ
  pub descriptor : Cursor

-- a note as the code has it
abbrev pub note_view : Note → NoteView
note_view n = record { place = n.place; name = n.name.now; kind = n.kind; descriptor = cursor n.descriptor }

-- the number of bytes that bring a size to a multiple of 4
abbrev pub padding : ℕ → ℕ
padding size = (4 - size % 4) % 4

-- between two cursors is the padding after a field, or the part of it before the segment's end
pub record PaddingStands (size : ℕ) (from to : Cursor) : Type 0 where
  pub run : List ℕ
  pub width : length run ≡ min (padding size) (length from.left)
  pub passes : Passes run from to

-- a note is between two cursors
pub record NoteStands (n : NoteView) (from to : Cursor) : Type 0 where
  pub at_descriptor_size : Cursor
  pub at_kind : Cursor
  pub at_name : Cursor
  pub after_name : Cursor
  pub at_descriptor : Cursor
  pub after_descriptor : Cursor
  pub place : n.place ≡ from.place
  pub name_size : Stands (Number 4) (length n.name) from at_descriptor_size
  pub descriptor_size : Stands (Number 4) (length n.descriptor.left) at_descriptor_size at_kind
  pub kind : Stands (Number 4) n.kind at_kind at_name
  pub name : Stands (Bytes (length n.name)) n.name at_name after_name
  pub name_padding : PaddingStands (length n.name) after_name at_descriptor
  pub start : n.descriptor.place ≡ at_descriptor.place
  pub descriptor : Stands (Bytes (length n.descriptor.left)) n.descriptor.left at_descriptor after_descriptor
  pub descriptor_padding : PaddingStands (length n.descriptor.left) after_descriptor to

-- a field and the padding after it
unfoldable pub padded_at : ℕ → Cursor → Read Cursor
padded_at size at = part_at size at >>= λ field. Ok (field.0, past (min (padding size) (length field.1.left)) field.1)

-- the note at a cursor, and the cursor after it
unfoldable pub note_at : Cursor → Read NoteView
note_at at = do
  name_size ← number_at 4 at
  descriptor_size ← number_at 4 name_size.1
  kind ← number_at 4 descriptor_size.1
  name ← padded_at name_size.0 kind.1
  descriptor ← padded_at descriptor_size.0 name.1
  Ok (record { place = at.place; name = name.0.left; kind = kind.0; descriptor = descriptor.0 }, descriptor.1)
