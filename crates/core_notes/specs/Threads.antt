-- Inside the crate. The next status of a list of notes.
use Rattle.std.specs.Prelude.{◌≡◌, List, [], ◌∷◌, Option, Some, None}
use Rattle.sf_model.specs.declared.machine.Arch.{Arch}
use Rattle.core_notes.specs.declared.note.Note.{Note}
use Rattle.core_notes.specs.Note.{NoteView}
use Rattle.core_notes.specs.Thread.{own_mask, thread_of, threads_in}

-- after the next status, if there is one, these notes are left: its thread is the first; without one there is no thread
abbrev pub GivesStatus : Arch → Option Note → List NoteView → List NoteView → Type 0
GivesStatus arch None before after = (threads_in arch before ≡ []) × (threads_in arch after ≡ [])
GivesStatus arch (Some n) before after = threads_in arch before ≡ thread_of arch n.descriptor.bytes.now (own_mask arch after) ∷ threads_in arch after
