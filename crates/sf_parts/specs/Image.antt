-- Inside the crate. All bytes of a file of which parts were read: what the file holds, if that is known; else what the parts say, with zero bytes where none
-- was read.
use Rattle.std.specs.Prelude.{ℕ, ◌+◌, List, [], ◌∷◌, ◌++◌, length, take, drop, replicate, Option, Some, None}
use Rattle.sf_bytes.specs.declared.file_part.FilePart.{FilePart}

-- the bytes with a part at its place
abbrev pub with_part : FilePart → List ℕ → List ℕ
with_part part bytes = take part.place bytes ++ (part.bytes.items ++ drop (part.place + length part.bytes.items) bytes)

abbrev pub with_parts : List ℕ → List FilePart → List ℕ
with_parts bytes [] = bytes
with_parts bytes (part ∷ parts) = with_parts (with_part part bytes) parts

-- a file of a length with these parts, and zero bytes elsewhere
abbrev pub image : (len : ℕ) → List FilePart → List ℕ
image len parts = with_parts (replicate len 0) parts

-- what is known to be there, or else what was read
abbrev pub known_or_read : Option (List (List ℕ × List ℕ)) → (known read : List ℕ) → List ℕ
known_or_read None known read = read
known_or_read (Some files) known read = known
