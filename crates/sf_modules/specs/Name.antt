-- The parts of a pathname (POSIX.1, "Pathname" and "Filename"), and how many of them two names have in common at their ends.
use Rattle.std.specs.Prelude.{ℕ, suc, ◌==◌, Bool, List, [], ◌∷◌, reverse, bytes_eq, Option, if◌then◌else◌}
use Rattle.std.specs.List.{position_from}

-- the byte is a slash
abbrev pub is_slash : ℕ → Bool
is_slash byte = byte == 47

-- parts whose first one has a byte more at its front
abbrev pub longer_first : (byte : ℕ) → List (List ℕ) → List (List ℕ)
longer_first byte [] = (byte ∷ []) ∷ []
longer_first byte (part ∷ parts) = (byte ∷ part) ∷ parts

-- the parts of a name, which is split at each slash: empty parts count
unfoldable pub parts_of : List ℕ → List (List ℕ)
parts_of [] = [] ∷ []
parts_of (byte ∷ bytes) = if is_slash byte then [] ∷ parts_of bytes else longer_first byte (parts_of bytes)

-- how many parts two lists have in common, from the first on
unfoldable pub shared : List (List ℕ) → List (List ℕ) → ℕ
shared [] others = 0
shared (part ∷ parts) [] = 0
shared (part ∷ parts) (other ∷ others) = if bytes_eq part other then suc (shared parts others) else 0

-- how many parts two names have in common, from the last on: the names are read backwards
unfoldable pub common_tail : (name other : List ℕ) → ℕ
common_tail name other = shared (parts_of (reverse name)) (parts_of (reverse other))

-- the bytes before the first slash, or all of them
unfoldable pub up_to_slash : List ℕ → List ℕ
up_to_slash [] = []
up_to_slash (byte ∷ bytes) = if is_slash byte then [] else byte ∷ up_to_slash bytes

-- the last part of a name: what is after its last slash
abbrev pub last_part : (name : List ℕ) → List ℕ
last_part name = reverse (up_to_slash (reverse name))

-- ---- Inside the crate
-- the number of the first of these names that is a name
abbrev pub name_number : (name : List ℕ) → (names : List (List ℕ)) → Option ℕ
name_number name names = position_from (bytes_eq name) 0 names
