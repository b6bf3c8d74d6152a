-- Which entry is a file's (Linux core files, NT_FILE; POSIX.1, "Pathname"): of the entries whose names have most parts in common with
-- the word for the file, from the last on, the first at which the file fits.
use Rattle.std.specs.Prelude.{ℕ, max, ◌==◌, Bool, ◌&&◌, not, nat_lt, bytes_eq, List, [], ◌∷◌, Option}
use Rattle.std.specs.List.{find, list_any}
use Rattle.sf_modules.specs.Entry.{EntryView}
use Rattle.sf_modules.specs.Fit.{all_segments_fit}
use Rattle.sf_modules.specs.Name.{common_tail}
use Rattle.sf_modules.specs.Process.{ProcessView}

-- the most parts that an entry's name has in common with a word
unfoldable pub longest_tail : (word : List ℕ) → List EntryView → ℕ
longest_tail word [] = 0
longest_tail word (e ∷ es) = max (common_tail word e.name) (longest_tail word es)

-- an entry has the word's last part
abbrev pub is_candidate : (word : List ℕ) → List EntryView → Bool
is_candidate word entries = nat_lt 0 (longest_tail word entries)

-- the entry's name has `tail` parts in common with the word, and the file fits there
abbrev pub matches : ProcessView → (word file : List ℕ) → (load tail : ℕ) → EntryView → Bool
matches p word file load tail e = (common_tail word e.name == tail) && all_segments_fit p file load e

-- the entry's name is nearest to the word, and the file fits there
abbrev pub is_match : ProcessView → (word file : List ℕ) → (load : ℕ) → EntryView → Bool
is_match p word file load e = matches p word file load (longest_tail word p.entries) e

-- the first such entry
abbrev pub matching_entry : ProcessView → (word file : List ℕ) → (load : ℕ) → Option EntryView
matching_entry p word file load = find (is_match p word file load) p.entries

-- another entry of another name has as many parts in common, and the file fits there too
abbrev pub matches_too : ProcessView → (word file : List ℕ) → (load tail : ℕ) → (e other : EntryView) → Bool
matches_too p word file load tail e other = (common_tail word other.name == tail) && not (bytes_eq other.name e.name) && all_segments_fit p file load other

-- there is such another entry
abbrev pub is_ambiguous : ProcessView → (word file : List ℕ) → (load : ℕ) → EntryView → Bool
is_ambiguous p word file load e = list_any (matches_too p word file load (longest_tail word p.entries) e) p.entries
