-- What was read of an item's file.
use Rattle.std.specs.Prelude.{ℕ, Bool, true, List}
use Rattle.core_parts.specs.Loaded.{core_read_bytes, is_whole}
use Rattle.elf_mapped.specs.Read.{mapped_bytes}
use Rattle.sf_parts.specs.Read.{file_of}
use Rattle.sf_words.specs.declared.item_read.ItemRead.{ItemRead}
use Rattle.sf_words.specs.declared.item_read.ItemRead.TheVariants.{File, Mapped, Core}

-- all the file's bytes
abbrev pub read_bytes : ItemRead → List ℕ
read_bytes (File file) = file_of file
read_bytes (Mapped mapped) = mapped_bytes mapped
read_bytes (Core core) = core_read_bytes core

-- whether the whole of a core file was read; a file that is no core file counts as read whole
abbrev pub is_read_whole : ItemRead → Bool
is_read_whole (File file) = true
is_read_whole (Mapped mapped) = true
is_read_whole (Core core) = is_whole core
