-- How a run of a command ends: for each status what files and streams then hold, and which line was printed.
use Rattle.std.specs.Prelude.{◌≡◌, ◌⊎◌, ℕ, List, [], ◌∷◌, Contains, Option, Some, None, IfSome, IsTrue}
use Rattle.sf_base.specs.Contents.{Unchanged, Holds, HoldsPrefix}
use Rattle.sf_base.specs.Faults.{Rose}
use Rattle.sf_base.specs.Seen.{FilesSeen, SinkSeen, OnlyReads}
use Rattle.sf_base.specs.Written.{Appends, AppendsPrefix}
use Rattle.sf_model.specs.declared.notice.Notice.{Notice}
use Rattle.sf_model.specs.Notice.{HasLine}
use Rattle.sf_model.specs.FaultShown.{shown_by}
use Rattle.sf_text.specs.FaultLine.{fault_text}
use Rattle.sf_words.specs.declared.refusal.Limit.{Limit}
use Rattle.sf_words.specs.declared.refusal.Limit.TheVariants.{Inputs}
use Rattle.sf_words.specs.declared.refusal.Refusal.{Refusal}
use Rattle.sf_words.specs.declared.refusal.Refusal.TheVariants as refusal
use Rattle.sf_words.specs.declared.loaded.Loaded.{Loaded}
use Rattle.sf_words.specs.Loading.{AreBytesOf, AreLoaded, Contents, IsLongCore, NeedsTooMuch, bytes_known, loaded_bytes, loaded_items}
use Rattle.sf_words.specs.Files.{item_names, items_of}
use Rattle.section_commands.specs.Coming.{Coming, Refused, Exceeded, MakesNoting}
use Rattle.section_commands.specs.declared.made.Outcome.{Outcome}
use Rattle.section_commands.specs.declared.made.Outcome.TheVariants as outcome
use Rattle.section_commands.specs.Making.{ComesAs}
use Rattle.sf_run.specs.Comes.{Comes, RefusesNothing}
use Rattle.sf_run.specs.Commands.{CommandWords, files_of_command}
use Rattle.sf_run.specs.declared.status.Status.{Status}
use Rattle.sf_run.specs.declared.status.Status.TheVariants as status
use Rattle.sf_run.specs.Lines.{Says, usage_line, read_line, write_file_line, write_output_line, memory_line, limit_line}
use Rattle.sf_run.specs.Status.{status_for, status_of}

-- what is seen of the outside
pub record Seen : Type 0 where
  pub files : FilesSeen
  pub out : SinkSeen
  pub err : SinkSeen

-- what is seen of these files and streams
abbrev pub seen : FilesSeen → (out err : SinkSeen) → Seen
seen files out err = record { files = files; out = out; err = err }

-- the command comes to this over the bytes of its items: what its files hold, where that is known
pub record RunComes (command : CommandWords) (contents : Contents) (coming : Coming) : Type 0 where
  pub items : List (List ℕ)
  pub bytes : AreBytesOf contents (items_of (files_of_command command)) items
  pub comes : Comes command items coming

-- a limit is what the command comes to, or more may have to be read of its core file than is read of one
abbrev pub RunExceeds : CommandWords → Contents → Limit → Type 0
RunExceeds command contents limit = RunComes command contents (Exceeded limit) ⊎ NeedsTooMuch contents (items_of (files_of_command command)) limit

-- Files were read alone: none was created or changed. Nothing went to the output, and the errors got this line.
pub record TurnedAway (before after : Seen) (line : List ℕ) : Type 0 where
  pub files : OnlyReads before.files after.files
  pub output : after.out ≡ before.out
  pub says : Says before.err after.err line

-- the section is in the file of this name, which is the created one; no other name changed, and no call failed
pub record StoredIn (name section : List ℕ) (before after : FilesSeen) : Type 0 where
  pub holds : Holds before.contents after.contents name section
  pub created : IsTrue after.created
  pub named : IfSome after.contents (λ _. after.created_name ≡ name)
  pub read_faults : after.read_faults ≡ before.read_faults
  pub write_faults : after.write_faults ≡ before.write_faults

-- the section is stored in the command's file; without either all that is seen of files is as before
abbrev pub Stored : (file section : Option (List ℕ)) → (before after : FilesSeen) → Type 0
Stored (Some name) (Some section) before after = StoredIn name section before after
Stored (Some name) None before after = after ≡ before
Stored None section before after = after ≡ before

-- the errors got these notes; without any, all that is seen of them is as before
abbrev pub IsNoted : (notes : List ℕ) → (before after : SinkSeen) → Type 0
IsNoted [] before after = after ≡ before
IsNoted (byte ∷ notes) before after = Says before after (byte ∷ notes)

-- the section is stored, the text was printed, and nothing but the notes went to the errors: no call of the files and the output failed
pub record Written (file section : Option (List ℕ)) (text notes : List ℕ) (before after : Seen) : Type 0 where
  pub stored : Stored file section before.files after.files
  pub output : Appends before.out.written after.out.written text
  pub faults : after.out.faults ≡ before.out.faults
  pub errors : IsNoted notes before.err after.err

-- the section is stored, and a prefix of the text was printed, since the output failed
pub record OutputFailed (file section : Option (List ℕ)) (text : List ℕ) (before after : Seen) : Type 0 where
  pub stored : Stored file section before.files after.files
  pub output : AppendsPrefix before.out.written after.out.written text
  pub cause : Rose before.out.faults after.out.faults
  pub says : Says before.err after.err write_output_line

-- what the command's file holds, if it could not be created or written whole: what it held before, or a prefix of the section
abbrev pub StoredPart : (file section : Option (List ℕ)) → (before after : FilesSeen) → Type 0
StoredPart (Some name) (Some section) before after = Unchanged before.contents after.contents ⊎ HoldsPrefix before.contents after.contents name section
StoredPart (Some name) None before after = ⊥
StoredPart None section before after = ⊥

-- the line of a file that could not be written
abbrev pub file_line : Option (List ℕ) → List ℕ
file_line (Some name) = write_file_line name
file_line None = []

-- the file could not be created or written whole
pub record FileFailed (file section : Option (List ℕ)) (before after : Seen) : Type 0 where
  pub stored : StoredPart file section before.files after.files
  pub cause : Rose before.files.write_faults after.files.write_faults
  pub output : after.out ≡ before.out
  pub says : Says before.err after.err (file_line file)

-- the run comes to a section or none, a text and notes with this outcome, and this is left of them
pub record Leaves (command : CommandWords) (contents : Contents) (outcome : Outcome) (Left : (section : Option (List ℕ)) → (text notes : List ℕ) → Type 0) : Type 0 where
  pub section : Option (List ℕ)
  pub text : List ℕ
  pub notes : List ℕ
  pub comes : RunComes command contents (MakesNoting outcome section text notes)
  pub left : Left section text notes

-- how a run of a command ends with each status
abbrev pub RunEnds : Status → CommandWords → (before after : Seen) → Type 0
RunEnds status.Done command before after =
    Leaves command before.files.contents outcome.Done (λ section text notes. Written (files_of_command command).out section text notes before after)
RunEnds status.Negative command before after =
    Leaves command before.files.contents outcome.Negative (λ section text notes. Written (files_of_command command).out section text notes before after)
RunEnds status.Usage command before after = ⊥
RunEnds status.Read command before after =
    (name : List ℕ) × Contains (item_names (files_of_command command)) name × TurnedAway before after (read_line name) × Rose before.files.read_faults after.files.read_faults
    × IfSome after.files.failed_name (λ failed. failed ≡ name)
RunEnds status.Write command before after =
    (made : Outcome) × Leaves command before.files.contents made (λ section text notes.
    FileFailed (files_of_command command).out section before after ⊎ OutputFailed (files_of_command command).out section text before after)
RunEnds status.Refused command before after =
    (notice : Notice) × HasLine notice × RunComes command before.files.contents (Refused (shown_by notice)) × TurnedAway before after (fault_text notice)
RunEnds status.Memory command before after = TurnedAway before after memory_line
RunEnds status.Limit command before after =
    (limit : Limit) × RunExceeds command before.files.contents limit × TurnedAway before after (limit_line limit)

-- the run ends with `limit inputs`, and no file was opened
pub record TurnedAwayUnread (answer : Status) (before after : Seen) : Type 0 where
  pub limit : answer ≡ status.Limit
  pub unread : after.files ≡ before.files
  pub turned : TurnedAway before after (limit_line Inputs)

-- no open, read, create or write failed, of the files and of the output
pub record NoneFailed (before after : Seen) : Type 0 where
  pub reads : Rose before.files.read_faults after.files.read_faults → ⊥
  pub writes : Rose before.files.write_faults after.files.write_faults → ⊥
  pub output : Rose before.out.faults after.out.faults → ⊥

-- memory ran out, or a limit is exceeded, since a core file has more bytes than may be read of one
abbrev pub GivesUp : Status → CommandWords → (items : List (List ℕ)) → Type 0
GivesUp answer command items = (answer ≡ status.Memory) ⊎ ((answer ≡ status.Limit) × (limit : Limit) × IsLongCore (items_of (files_of_command command)) items limit)

-- the status is that of what the command comes to; and where nothing is refused, the run made something; unless it gave up
pub record AnswersFor (answer : Status) (command : CommandWords) (items : List (List ℕ)) : Type 0 where
  pub comes : (coming : Coming) → Comes command items coming → (answer ≡ status_of coming) ⊎ GivesUp answer command items
  pub accepted : RefusesNothing command items → (answer ≡ status.Done) ⊎ ((answer ≡ status.Negative) ⊎ GivesUp answer command items)

-- where the contents are known and no call failed, the run answers for the bytes that the files hold
abbrev pub RunIsComplete : Status → CommandWords → (before after : Seen) → Type 0
RunIsComplete answer command before after =
    IfSome before.files.contents (λ known. NoneFailed before after → AnswersFor answer command (bytes_known known (items_of (files_of_command command))))

-- A run of the words of a command line, whichever they are: they have no form, or ask for a command, or memory ran out before they were read.
abbrev pub SomeRunEnds : Status → (before after : Seen) → Type 0
SomeRunEnds answer before after =
    ((answer ≡ status.Usage) × TurnedAway before after usage_line)
    ⊎ (((command : CommandWords) × RunEnds answer command before after)
    ⊎ ((answer ≡ status.Memory) × TurnedAway before after memory_line))

-- ---- Inside the crate: what was loaded, refusals and deliveries
-- these files were loaded for a command, within the limits
pub record IsLoadedFor (command : CommandWords) (contents : Contents) (loaded : List Loaded) : Type 0 where
  pub items : loaded_items loaded ≡ items_of (files_of_command command)
  pub bytes : AreLoaded contents (items_of (files_of_command command)) (loaded_bytes loaded)

-- why a run makes nothing: an item could not be read, or a refusal is what the run comes to, or too much would have to be read of a core
-- file, or memory ran out
abbrev pub RunRefuses : CommandWords → Contents → Refusal → Type 0
RunRefuses command contents (refusal.Read name) = Contains (item_names (files_of_command command)) name.now
RunRefuses command contents (refusal.Limit limit) = RunExceeds command contents limit
RunRefuses command contents refused = ComesAs (RunComes command contents) refused

-- a refused item has a line
abbrev pub CanBePrinted : Refusal → Type 0
CanBePrinted (refusal.Input notice) = HasLine notice
CanBePrinted refused = Unit {0}

-- the status and the line of a refusal
abbrev pub Tells : Refusal → Status → (before after : SinkSeen) → Type 0
Tells (refusal.Read name) answer before after = (answer ≡ status.Read) × Says before after (read_line name.now)
Tells refusal.Memory answer before after = (answer ≡ status.Memory) × Says before after memory_line
Tells (refusal.Limit limit) answer before after = (answer ≡ status.Limit) × Says before after (limit_line limit)
Tells (refusal.Input notice) answer before after = (answer ≡ status.Refused) × Says before after (fault_text notice)

-- what delivering leaves of what was made with this outcome
abbrev pub Delivered : Status → (made : Outcome) → (file section : Option (List ℕ)) → (text notes : List ℕ) → (before after : Seen) → Type 0
Delivered answer made file section text notes before after =
    ((answer ≡ status_for made) × Written file section text notes before after)
    ⊎ ((answer ≡ status.Write) × (FileFailed file section before after ⊎ OutputFailed file section text before after))
