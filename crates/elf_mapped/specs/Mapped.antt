-- An executable or a shared object that was read by parts.
use Rattle.std.specs.Prelude.{ℕ, List}
use Rattle.elf_read.specs.Linked.{linked_file}
use Rattle.elf_mapped.specs.declared.mapped_elf.MappedElf.{MappedElf}

-- all its bytes
abbrev pub mapped_file : MappedElf → List ℕ
mapped_file elf = linked_file elf.linked
