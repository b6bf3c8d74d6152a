-- Files that a program has in memory: a list of names with bytes.
use Rattle.std.specs.Prelude.{ℕ, List, [], ◌∷◌, Option, Some, None, String, Vec, Bool, false, true, ◌||◌, ◌++◌, ◌≡◌, ◌≢◌, string_bytes, if◌then◌else◌}
use Prim.Native.Nat.{zero, suc}
use Rattle.std.specs.Str.{bytes_eq}
use Rattle.std.specs.Option.{option_map}
use Rattle.std.specs.declared.alloc.Global.{Global}
use Rattle.sf_base.specs.Contents.{contents_of}

-- the pairs of a name's bytes and a file's bytes
abbrev pub pairs_of : List (String Global × Vec ℕ Global) → List (List ℕ × List ℕ)
pairs_of [] = []
pairs_of (file ∷ files) = (string_bytes file.0, file.1.items) ∷ pairs_of files

-- whether some pair has this name
abbrev pub has_name : List (List ℕ × List ℕ) → List ℕ → Bool
has_name [] name = false
has_name (file ∷ files) name = bytes_eq file.0 name || has_name files name

-- Inside the crate: the place of the first pair with this name
abbrev pub place_named : List (List ℕ × List ℕ) → List ℕ → Option ℕ
place_named [] name = None
place_named (file ∷ files) name = if bytes_eq file.0 name then Some 0 else option_map (λ place. suc place) (place_named files name)

-- Inside the crate: the pairs with these bytes in the first pair with this name, or in a new pair at the end if there was none
abbrev pub with_file : List (List ℕ × List ℕ) → List ℕ → List ℕ → List (List ℕ × List ℕ)
with_file [] name bytes = (name, bytes) ∷ []
with_file (file ∷ files) name bytes = if bytes_eq file.0 name then (file.0, bytes) ∷ files else file ∷ with_file files name bytes

-- the name at a place
abbrev pub name_at : List (List ℕ × List ℕ) → ℕ → List ℕ
name_at [] place = []
name_at (file ∷ files) zero = file.0
name_at (file ∷ files) (suc place) = name_at files place

-- the bytes at a place
abbrev pub contents_at : List (List ℕ × List ℕ) → ℕ → List ℕ
contents_at [] place = []
contents_at (file ∷ files) zero = file.1
contents_at (file ∷ files) (suc place) = contents_at files place

-- Inside the crate: the pairs with these bytes appended to the first file with the name at a place
abbrev pub with_appended : List (List ℕ × List ℕ) → ℕ → List ℕ → List (List ℕ × List ℕ)
with_appended files place piece = with_file files (name_at files place) (contents_of files (name_at files place) ++ piece)

-- afterwards there is a file of this name, and one of each other name exactly if there was one before
pub record AddsName (name : List ℕ) (old new : List (List ℕ × List ℕ)) : Type 0 where
  pub held : has_name new name ≡ true
  pub others : (other : List ℕ) → other ≢ name → has_name new other ≡ has_name old other
