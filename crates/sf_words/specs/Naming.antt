-- Inside the crate. The files that lists of words name: there is one list at most for each list of words.
use Rattle.std.specs.Prelude.{ℕ, List}
use Rattle.std.specs.List.{AllZip}

-- the files that the words name, in order, where each word says this of its file
abbrev pub FilesNamed : {X : Type 0} → (Says : List ℕ → X → Type 0) → (words : List (List ℕ)) → Type 0
FilesNamed {X} Says words = (files : List X) × ∥ AllZip Says words files ∥₁
