-- Files that are lent, and known until one is created.
use Rattle.std.specs.Borrow.{Bor}
use Rattle.std.specs.Prelude.{ℕ, Bool, true, false, List, [], Option, Some, None}

-- the bytes left of an open file, or none if no file is open
abbrev pub lent_rest : Option (Bor (List ℕ)) → List ℕ
lent_rest None = []
lent_rest (Some rest) = rest.now

-- the contents of the lent files, which are known until a file is created
abbrev pub known_until : Bool → List (List ℕ × List ℕ) → Option (List (List ℕ × List ℕ))
known_until true files = None
known_until false files = Some files
