-- What files hold: pairs of a file's name and its bytes.
use Rattle.std.specs.Prelude.{◌≡◌, ◌≢◌, ◌++◌, ℕ, List, [], ◌∷◌, Option, take, if◌then◌else◌}
use Rattle.std.specs.Str.{bytes_eq}
use Rattle.sf_base.specs.Known.{OnKnown}

-- The contents of a name: the first pair with the name counts, and a name that is not there counts as an empty file.
abbrev pub contents_of : List (List ℕ × List ℕ) → List ℕ → List ℕ
contents_of [] name = []
contents_of (file ∷ files) name = if bytes_eq file.0 name then file.1 else contents_of files name

-- the name holds these bytes, and each other name holds what it held
pub record Changes (name bytes : List ℕ) (old new : List (List ℕ × List ℕ)) : Type 0 where
  pub named : contents_of new name ≡ bytes
  pub others : (other : List ℕ) → other ≢ name → contents_of new other ≡ contents_of old other

-- each name holds what it held
abbrev pub Unchanged : Option (List (List ℕ × List ℕ)) → Option (List (List ℕ × List ℕ)) → Type 0
Unchanged before after = OnKnown before after (λ old new. (name : List ℕ) → contents_of new name ≡ contents_of old name)

-- after the calls the name holds these bytes, and all else stays
abbrev pub Holds : Option (List (List ℕ × List ℕ)) → Option (List (List ℕ × List ℕ)) → List ℕ → List ℕ → Type 0
Holds before after name bytes = OnKnown before after (λ old new. Changes name bytes old new)

-- after the calls the name holds a prefix of these bytes, and all else stays
abbrev pub HoldsPrefix : Option (List (List ℕ × List ℕ)) → Option (List (List ℕ × List ℕ)) → List ℕ → List ℕ → Type 0
HoldsPrefix before after name bytes = OnKnown before after (λ old new. (n : ℕ) × Changes name (take n bytes) old new)

-- the name's contents grew by these bytes, and all else stays
abbrev pub Grows : Option (List (List ℕ × List ℕ)) → Option (List (List ℕ × List ℕ)) → List ℕ → List ℕ → Type 0
Grows before after name piece = OnKnown before after (λ old new. Changes name (contents_of old name ++ piece) old new)

-- the name's contents grew by a prefix of these bytes, and all else stays
abbrev pub GrowsByPrefix : Option (List (List ℕ × List ℕ)) → Option (List (List ℕ × List ℕ)) → List ℕ → List ℕ → Type 0
GrowsByPrefix before after name bytes =
    OnKnown before after (λ old new. (n : ℕ) × Changes name (contents_of old name ++ take n bytes) old new)

-- a read moved the first n bytes of the rest to the front of the buffer, and n is 0 only at the end of the file
pub record Moves (n : ℕ) (rest left buffer : List ℕ) : Type 0 where
  pub moved : rest ≡ take n buffer ++ left
  pub end : n ≡ 0 → rest ≡ []
