-- A file to link has fewer than 2^32 bytes, in either form.
use Rattle.std.proofs.Common.{◌<◌, ◌^◌, length}
use Rattle.elf_read.specs.declared.input.ElfInput.{ElfInput}
use Rattle.elf_read.specs.declared.input.ElfInput.TheVariants.{Whole, Linked}
use Rattle.elf_read.specs.Input.{file}

pub is_short : (input : ElfInput) → length (file input) < 2 ^ 32
is_short (Whole elf) = elf.small
is_short (Linked elf) = elf.now.small
