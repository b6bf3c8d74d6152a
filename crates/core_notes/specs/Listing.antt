-- The notes of a core file: those of its PT_NOTE segments, in order (ELF64 gABI, "Note Section"; Linux core files).
use Rattle.std.specs.Prelude.{◌≡◌, ℕ, zero, suc, ◌+◌, ◌-◌, ◌++◌, Bool, true, false, List, [], ◌∷◌, length, drop, Option, Some, None, Result, Ok, Err, if◌then◌else◌}
use Rattle.std.specs.List.{flat_map}
use Rattle.sf_bytes.specs.Cursor.{Cursor, Read, cursor}
use Rattle.elf_read.specs.declared.view.Elf.{Elf}
use Rattle.elf_read.specs.Views.{file}
use Rattle.core_notes.specs.declared.note.Note.{Note}
use Rattle.core_notes.specs.declared.notes.Notes.{Notes}
use Rattle.core_notes.specs.Note.{NoteView, NoteStands, note_at, note_view}
use Rattle.core_notes.specs.Segment.{SegmentView, holds_notes, segments}

-- ---- what a run of bytes is
-- notes are between two cursors, each where the one before it ends
abbrev pub NotesStand : List NoteView → Cursor → Cursor → Type 0
NotesStand [] from to = to ≡ from
NotesStand (n ∷ ns) from to = (after : Cursor) × NoteStands n from after × NotesStand ns after to

-- the bytes of a segment, with their place
abbrev pub segment_cursor : SegmentView → Cursor
segment_cursor s = record { place = s.place; left = s.bytes }

-- notes are the bytes from a cursor on, to their end
pub record AreAllNotes (notes : List NoteView) (from : Cursor) : Type 0 where
  pub end : Cursor
  pub stand : NotesStand notes from end
  pub nothing_left : end.left ≡ []

-- the notes that are the bytes of a segment; one that isn't a PT_NOTE has none
abbrev pub AreSegmentNotes : (holds_notes : Bool) → SegmentView → List NoteView → Type 0
AreSegmentNotes true s notes = AreAllNotes notes (segment_cursor s)
AreSegmentNotes false s notes = notes ≡ []

-- the notes of segments, in order
abbrev pub AreNotes : List SegmentView → List NoteView → Type 0
AreNotes [] notes = notes ≡ []
AreNotes (s ∷ ss) notes = (here later : List NoteView) × (notes ≡ here ++ later) × AreSegmentNotes (holds_notes s) s here × AreNotes ss later

-- ---- the notes as a list, which ends at a note that ends after its segment
-- a note, or the place of one that ends after its segment
abbrev pub NoteItem : Type 0
NoteItem = Result NoteView ℕ

-- the number of bytes after the note
abbrev pub left_after : Read NoteView → ℕ
left_after (Ok (n, after)) = length after.left
left_after (Err e) = 0

-- the note and those after it, or the place alone
abbrev pub note_front : (place : ℕ) → Read NoteView → List NoteItem → List NoteItem
note_front place (Ok (n, after)) others = Ok n ∷ others
note_front place (Err e) others = Err place ∷ []

-- the notes after this number of bytes, which are of a note that was read
unfoldable pub notes_after : (skipped place : ℕ) → List ℕ → List NoteItem
notes_after skipped place [] = []
notes_after (suc n) place (b ∷ bs) = notes_after n (place + 1) bs
notes_after zero place (b ∷ bs) =
    let read = note_at (record { place = place; left = b ∷ bs }) in
    note_front place read (notes_after (length bs - left_after read) (place + 1) bs)

-- the notes from a cursor on
abbrev pub notes_from : Cursor → List NoteItem
notes_from at = notes_after 0 at.place at.left

-- the notes of a segment
abbrev pub segment_items : SegmentView → List NoteItem
segment_items s = if holds_notes s then notes_from (segment_cursor s) else []

-- the notes of a file
abbrev pub notes_in : List ℕ → List NoteItem
notes_in bytes = flat_map segment_items (segments bytes)

-- the notes that end in their segments
unfoldable pub whole_notes : List NoteItem → List NoteView
whole_notes [] = []
whole_notes (Ok n ∷ items) = n ∷ whole_notes items
whole_notes (Err place ∷ items) = whole_notes items

-- ---- an iterator
-- the notes of the segments from one on, if there is a file of them
abbrev pub items_from : Option Elf → (segment : ℕ) → List NoteItem
items_from None segment = []
items_from (Some elf) segment = flat_map segment_items (drop segment (segments (file elf)))

-- the notes that an iterator has left
abbrev pub notes_remaining : Notes → List NoteItem
notes_remaining notes = notes_from (cursor notes.rest) ++ items_from notes.elf notes.segment

-- ---- Inside the crate
-- an item as the code has it
abbrev pub note_item : Result Note ℕ → NoteItem
note_item (Ok n) = Ok (note_view n)
note_item (Err place) = Err place
