-- Walks through mapped files by a core file that was read, whole or by parts (Linux core files, NT_FILE).
use Rattle.std.specs.Prelude.{◌≡◌, ℕ, Bool, true, List}
use Rattle.process_walk.specs.Walk.{ProcessListing, listing}
use Rattle.process_tables.specs.declared.walks.MappedWalks.{MappedWalks}
use Rattle.process_tables.specs.declared.walks.MappedWalks.TheVariants.{Text, Unread}
use Rattle.process_tables.specs.declared.walks.ThreadWalk.{ThreadWalk}
use Rattle.process_tables.specs.declared.walks.ThreadWalk.TheVariants.{Whole, Missed}

-- the walks have this text, or more of the memory has to be read: only where parts of it were
abbrev pub AreWalks : (text : List ℕ) → (is_part : Bool) → MappedWalks → Type 0
AreWalks text is_part (Text t) = t.items ≡ text
AreWalks text is_part (Unread addresses) = is_part ≡ true

-- ---- Inside the crate
-- the walk of a thread is this one, or more of the memory has to be read: only where parts of it were
abbrev pub IsThreadWalk : ProcessListing → (is_part : Bool) → ThreadWalk → Type 0
IsThreadWalk whole is_part (Whole walk) = listing walk ≡ whole
IsThreadWalk whole is_part (Missed address) = is_part ≡ true
