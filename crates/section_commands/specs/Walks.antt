-- The walks of a core file's threads, as text, and what the commands that walk come to where the core file is refused.
use Rattle.std.specs.Prelude.{◌≡◌, ◌⊎◌, ◌<◌, ◌+◌, ◌++◌, ℕ, Bool, true, List, [], ◌∷◌, length, Some, None}
use Rattle.sf_model.specs.FaultShown.{FaultShown}
use Rattle.sf_model.specs.Table.{Table}
use Rattle.sf_model.specs.Walk.{Listing, ThreadState, section_walk}
use Rattle.core_notes.specs.declared.fault.CoreFault.{CoreFault}
use Rattle.core_notes.specs.declared.fault.CoreFault.TheVariants.{TooManyThreads}
use Rattle.core_notes.specs.declared.status.Thread.{Thread}
use Rattle.core_notes.specs.Checks.{file_threads}
use Rattle.core_notes.specs.Memory.{file_regions}
use Rattle.core_notes.specs.FaultShown.{shown_of_core}
use Rattle.core_walk.specs.Walk.{thread_state}
use Rattle.sf_merge.specs.declared.fault.MergeFault.TheVariants as merge
use Rattle.sf_merge.specs.FaultShown.{shown_of_merging}
use Rattle.sf_text.specs.Frames.{walk_text}
use Rattle.sf_words.specs.declared.refusal.Limit.TheVariants.{Threads}
use Rattle.section_commands.specs.declared.walks.WalkTexts.{WalkTexts}
use Rattle.section_commands.specs.Coming.{Coming, Exceeded, Refused}

-- what the line shows if item 0 and this item are for different machines
abbrev pub shown_of_mixed : (item : ℕ) → FaultShown
shown_of_mixed item = shown_of_merging None (merge.MixedArch 0 item)

-- what a fault of the core file of an item comes to
abbrev pub coming_of_core : (item : ℕ) → CoreFault → Coming
coming_of_core item TooManyThreads = Exceeded Threads
coming_of_core item fault = Refused (shown_of_core (Some item) fault)

-- the text of what a thread's walk lists
abbrev pub listing_text : (number : ℕ) → Thread → Listing → List ℕ
listing_text number thread listing = walk_text number thread.pid listing.frames listing.stop

-- the texts of the walks of threads, which are numbered from `first` on
unfoldable pub walks_text : (walk_of : ThreadState → Listing) → (first : ℕ) → List Thread → List ℕ
walks_text walk_of first [] = []
walks_text walk_of first (thread ∷ threads) = listing_text first thread (walk_of (thread_state thread)) ++ walks_text walk_of (first + 1) threads

-- the walks of all threads of a core file by the rows of a table, with the file's memory, each of at most `depth` frames
abbrev pub table_walks : Table → (core : List ℕ) → (depth : ℕ) → List ℕ
table_walks table core depth = walks_text (λ thread. section_walk table.functions thread (file_regions core) depth) 0 (file_threads core)

-- ---- Inside the crate: while threads are walked
-- the texts so far, and the addresses that have to be read
pub record TextsView : Type 0 where
  pub text : List ℕ
  pub missed : List ℕ

abbrev pub texts_view : WalkTexts → TextsView
texts_view walks = record { text = walks.text.items; missed = walks.missed.items }

-- one walk more was made, with this text, or an address more has to be read, of a memory that was read in part
pub record HasOneMore (is_part : Bool) (text : List ℕ) (before after : TextsView) : Type 0 where
  pub grown : length after.missed ≡ 0 → (length before.missed ≡ 0) × (after.text ≡ before.text ++ text)
  pub parts : 0 < length after.missed → (0 < length before.missed) ⊎ (is_part ≡ true)
