-- What was read of a file: parts of it, or all of it.
use Rattle.std.specs.Prelude.{ℕ, List}
use Rattle.elf_mapped.specs.declared.mapped_read.MappedRead.{MappedRead}
use Rattle.elf_mapped.specs.declared.mapped_read.MappedRead.TheVariants.{Parts, Whole}
use Rattle.elf_mapped.specs.Mapped.{mapped_file}

-- all the file's bytes
abbrev pub mapped_bytes : MappedRead → List ℕ
mapped_bytes (Parts elf) = mapped_file elf
mapped_bytes (Whole bytes) = bytes.items
