-- Parts of a file: some of its bytes, each with the place of the first.
use Rattle.std.specs.Prelude.{◌≡◌, ℕ, List, All, length, take, drop}
use Rattle.sf_bytes.specs.declared.file_part.FilePart.{FilePart}

-- the part's bytes are those that the file has from its place on
abbrev pub IsPart : List ℕ → FilePart → Type 0
IsPart whole part = part.bytes.items ≡ take (length part.bytes.items) (drop part.place whole)

-- each is a part of the file
abbrev pub AreParts : List ℕ → List FilePart → Type 0
AreParts whole parts = All (IsPart whole) parts
