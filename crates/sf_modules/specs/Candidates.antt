-- The entries of a process by the last parts of their names (POSIX.1, "Filename"): a name with another last part than a word's has no
-- part in common with the word.
use Rattle.std.specs.Prelude.{ℕ, ◌+◌, Bool, bytes_eq, List, [], ◌∷◌, map, Option}
use Rattle.std.specs.List.{filter, position_from}
use Rattle.sf_modules.specs.Entry.{EntryView}
use Rattle.sf_modules.specs.Name.{last_part}

-- Inside the crate: the last parts of the names of entries
abbrev pub last_parts : List EntryView → List (List ℕ)
last_parts entries = map (λ (e : EntryView). last_part e.name) entries

-- this is the last part of an entry's name
abbrev pub ends_in : (part : List ℕ) → EntryView → Bool
ends_in part e = bytes_eq part (last_part e.name)

-- the entries whose names have the last part of a word
abbrev pub candidates : (word : List ℕ) → List EntryView → List EntryView
candidates word entries = filter (ends_in (last_part word)) entries

-- the first of these entries, and those after it whose names have its last part
unfoldable pub alike : List EntryView → List EntryView
alike [] = []
alike (e ∷ es) = e ∷ filter (ends_in (last_part e.name)) es

-- Inside the crate: for each of these parts the number of the next one that is the same: they are numbered from this number on
unfoldable pub next_same : (number : ℕ) → List (List ℕ) → List (Option ℕ)
next_same number [] = []
next_same number (part ∷ parts) = position_from (bytes_eq part) (number + 1) parts ∷ next_same (number + 1) parts
