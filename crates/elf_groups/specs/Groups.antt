-- The COMDAT groups that are dropped, file by file: those whose signature is one of the signatures that were seen before.
-- The law `groups_of_earlier_signatures_are_dropped` joins them to the definition in `Dropped.antt`.
use Rattle.std.specs.Prelude.{ℕ, Bool, false, List, [], ◌∷◌, ◌++◌, Option, Some, None, bytes_eq, filter, filter_map, if◌then◌else◌}
use Rattle.std.specs.List.{list_any}
use Rattle.std.specs.Option.{option_and_then}
use Rattle.elf_read.specs.Checking.{numbers_below}
use Rattle.elf_read.specs.Sections.{section_count}
use Rattle.elf_read.specs.Views.{GroupView, group_of}

-- Inside the crate: the signature of a COMDAT group
abbrev pub if_comdat : GroupView → Option (List ℕ)
if_comdat g = if g.comdat then Some g.signature else None

-- the signature of a section that is a COMDAT group, by what is seen of the group
unfoldable pub group_signature : (file : List ℕ) → ℕ → Option (List ℕ)
group_signature file i = option_and_then (λ (g : GroupView). if g.comdat then Some g.signature else None) (group_of file i)

-- the signatures of the groups among the sections below n, in order
unfoldable pub signatures_below : (file : List ℕ) → ℕ → List (List ℕ)
signatures_below file n = filter_map (group_signature file) (numbers_below n)

-- whether a section's signature was seen before
abbrev pub was_seen : List (List ℕ) → Option (List ℕ) → Bool
was_seen seen None = false
was_seen seen (Some signature) = list_any (bytes_eq signature) seen

-- the signatures that were seen once a file is read, after those that were seen before
abbrev pub seen_after : (seen : List (List ℕ)) → (file : List ℕ) → List (List ℕ)
seen_after seen file = seen ++ signatures_below file (section_count file)

-- the numbers of a file's COMDAT groups that are dropped: their signature was seen before
abbrev pub dropped_groups : (seen : List (List ℕ)) → (file : List ℕ) → List ℕ
dropped_groups seen file = filter (λ n. was_seen (seen ++ signatures_below file n) (group_signature file n)) (numbers_below (section_count file))

-- the signatures that were seen once files are read, after those that were seen before
abbrev pub seen_in : (seen : List (List ℕ)) → (files : List (List ℕ)) → List (List ℕ)
seen_in seen [] = seen
seen_in seen (file ∷ files) = seen_in (seen_after seen file) files

-- ---- Inside the crate: one section after the other
-- the signatures that were seen, with that of one more section
abbrev pub with_signature : List (List ℕ) → Option (List ℕ) → List (List ℕ)
with_signature seen None = seen
with_signature seen (Some signature) = seen ++ signature ∷ []

-- the signatures of the sections below n, after those that were seen before
abbrev pub seen_below : (seen : List (List ℕ)) → (file : List ℕ) → ℕ → List (List ℕ)
seen_below seen file n = seen ++ signatures_below file n

-- the numbers below n of the COMDAT groups that are dropped
abbrev pub dropped_below : (seen : List (List ℕ)) → (file : List ℕ) → ℕ → List ℕ
dropped_below seen file n = filter (λ k. was_seen (seen ++ signatures_below file k) (group_signature file k)) (numbers_below n)
