-- What was read of a file: parts of a linked one, or all of it.
use Rattle.std.specs.Prelude.{ℕ, List}
use Rattle.elf_read.specs.Linked.{linked_file}
use Rattle.sf_parts.specs.declared.file_read.FileRead.{FileRead}
use Rattle.sf_parts.specs.declared.file_read.FileRead.TheVariants.{Linked, Whole}

-- all the file's bytes
abbrev pub file_of : FileRead → List ℕ
file_of (Linked elf) = linked_file elf
file_of (Whole bytes) = bytes.items
