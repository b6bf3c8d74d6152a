-- What was read of a core file: parts of it, or all of it.
use Rattle.std.specs.Prelude.{ℕ, Bool, true, false, List, length, map, sum}
use Rattle.sf_bytes.specs.declared.file_part.FilePart.{FilePart}
use Rattle.core_parts.specs.declared.loading.CoreRead.{CoreRead}
use Rattle.core_parts.specs.declared.loading.CoreRead.TheVariants.{Parts, Whole}
use Rattle.core_parts.specs.Partial.{partial_file, parts_of_core}

-- all the file's bytes
abbrev pub core_read_bytes : CoreRead → List ℕ
core_read_bytes (Parts core) = partial_file core
core_read_bytes (Whole bytes) = bytes.items

-- whether the whole file was read
abbrev pub is_whole : CoreRead → Bool
is_whole (Parts core) = false
is_whole (Whole bytes) = true

-- how many bytes these parts have
abbrev pub parts_count : List FilePart → ℕ
parts_count parts = sum (map (λ (part : FilePart). length part.bytes.items) parts)

-- how many bytes were read
abbrev pub read_count : CoreRead → ℕ
read_count (Parts core) = parts_count (parts_of_core core)
read_count (Whole bytes) = length bytes.items
