-- What a command comes to that is given a core file and files that its process had mapped (ELF64 gABI; Linux core files, NT_FILE).
use Rattle.std.specs.Prelude.{◌≡◌, ℕ, List, Option, Some, Result, Ok, Err}
use Rattle.sf_bytes.specs.Cursor.{Cursor}
use Rattle.sf_decode.specs.declared.fault.DecodeFault.TheVariants.{TooManyFunctions, TooManyRows}
use Rattle.core_notes.specs.declared.fault.CoreFault.{CoreFault}
use Rattle.core_notes.specs.Listing.{notes_in, whole_notes}
use Rattle.core_notes.specs.Thread.{file_note_in}
use Rattle.sf_modules.specs.declared.fault.ModuleFault.{ModuleFault}
use Rattle.sf_modules.specs.declared.fault.ModuleFault.TheVariants.{Section, Unread}
use Rattle.sf_modules.specs.Entry.{EntryView}
use Rattle.sf_modules.specs.Fault.{Check}
use Rattle.sf_modules.specs.FaultShown.{shown_of_module}
use Rattle.sf_modules.specs.Note.{HasEntries, file_entries_check}
use Rattle.sf_modules.specs.Process.{ProcessView, process_of}
use Rattle.sf_words.specs.declared.refusal.Limit.TheVariants as limits
use Rattle.section_commands.specs.Coming.{Coming, Exceeded, Refused}
use Rattle.section_commands.specs.Walks.{coming_of_core}

-- a file as it is named, and its bytes
abbrev pub File : Type 0
File = List ℕ × List ℕ

-- what a fault of an item comes to: of the core file's note on mapped files, or of the module of a file
abbrev pub coming_of_module : (item : ℕ) → ModuleFault → Coming
coming_of_module item (Section (TooManyFunctions place)) = Exceeded limits.Functions
coming_of_module item (Section (TooManyRows place)) = Exceeded limits.Rows
coming_of_module item fault = Refused (shown_of_module (Some item) fault)

-- the note on mapped files of a core file
abbrev pub file_note : (core : List ℕ) → Option Cursor
file_note core = file_note_in (whole_notes (notes_in core))

-- what a process comes to by the page size and the entries of that note
pub record EntriesCome (core : List ℕ) (Come : ProcessView → Coming → Type 0) (coming : Coming) : Type 0 where
  pub page : ℕ
  pub entries : List EntryView
  pub are : HasEntries (file_note core) page entries
  pub comes : Come (process_of core page entries) coming

-- the fault of the note, or what the process comes to
abbrev pub NoteComes : (core : List ℕ) → (ProcessView → Coming → Type 0) → Check → Coming → Type 0
NoteComes core Come (Err fault) coming = coming ≡ coming_of_module 0 fault
NoteComes core Come (Ok u) coming = EntriesCome core Come coming

-- the fault of the core file, which is item 0, or what it comes to with its note
abbrev pub ProcessComes : (core : List ℕ) → (ProcessView → Coming → Type 0) → Result (Unit {0}) CoreFault → Coming → Type 0
ProcessComes core Come (Err fault) coming = coming ≡ coming_of_core 0 fault
ProcessComes core Come (Ok u) coming = NoteComes core Come (file_entries_check (file_note core)) coming

-- ---- Inside the crate
-- it isn't that a part of the core file wasn't read
abbrev pub IsFinalFault : ModuleFault → Type 0
IsFinalFault (Unread address) = ⊥
IsFinalFault fault = Unit {0}
