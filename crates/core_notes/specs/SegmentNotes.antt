-- The notes of one segment of any ELF file (ELF64 gABI, "Note Section").
use Rattle.std.specs.Prelude.{ℕ, List}
use Rattle.sf_bytes.specs.Cursor.{cursor}
use Rattle.core_notes.specs.declared.segment_notes.SegmentNotes.{SegmentNotes}
use Rattle.core_notes.specs.Listing.{notes_from, segment_items, whole_notes}
use Rattle.core_notes.specs.Note.{NoteView}
use Rattle.core_notes.specs.Segment.{segment_of}

-- the notes of the segment of this number; a segment that is no PT_NOTE has none
abbrev pub segment_notes : List ℕ → (i : ℕ) → List NoteView
segment_notes file i = whole_notes (segment_items (segment_of file i))

-- the notes that an iterator has left
abbrev pub notes_left : SegmentNotes → List NoteView
notes_left notes = whole_notes (notes_from (cursor notes.rest))
