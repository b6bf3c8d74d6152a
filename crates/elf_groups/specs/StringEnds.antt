-- Inside the crate. Where the texts of a file end (ELF64 gABI, "String Table"), by what was seen of its bytes.
use Rattle.std.specs.Prelude.{◌≡◌, ◌<◌, ◌≤◌, ◌==◌, ℕ, false, List, All, get_or}
use Rattle.elf_groups.specs.declared.string_ends.StringEnds.{StringEnds}
use Rattle.elf_groups.specs.declared.string_ends.Run.{Run}

-- none of these bytes is zero, from one place to another
abbrev pub AreNotZero : List ℕ → (first end : ℕ) → Type 0
AreNotZero bytes first end = (k : ℕ) → first ≤ k → k < end → (get_or bytes k 1 == 0) ≡ false

-- a run that is kept has no zero byte
abbrev pub IsFreeRun : List ℕ → Run → Type 0
IsFreeRun file run = AreNotZero file run.first run.end

-- all runs that are kept are runs of the file
abbrev pub AreRuns : List ℕ → StringEnds → Type 0
AreRuns file ends = All (λ e. IsFreeRun file e.1) ends.runs.entries
