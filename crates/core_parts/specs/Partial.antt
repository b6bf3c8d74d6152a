-- A core file of which parts were read, as one list of bytes.
use Rattle.std.specs.Prelude.{ℕ, List}
use Rattle.sf_bytes.specs.declared.file_part.FilePart.{FilePart}
use Rattle.core_parts.specs.declared.partial_core.PartialCore.{PartialCore}

-- all the bytes of a core file of which parts were read
abbrev pub partial_file : PartialCore → List ℕ
partial_file core = core.whole.numbers

-- the parts of it that were read
abbrev pub parts_of_core : PartialCore → List FilePart
parts_of_core core = core.core.file.parts.items
