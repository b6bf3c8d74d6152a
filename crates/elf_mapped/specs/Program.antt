-- A file that a process may have had mapped, in either of its two forms.
use Rattle.std.specs.Prelude.{ℕ, List}
use Rattle.elf_read.specs.Views.{file}
use Rattle.elf_mapped.specs.declared.program.MappedBytes.{MappedBytes}
use Rattle.elf_mapped.specs.declared.program.MappedBytes.TheVariants as bytes
use Rattle.elf_mapped.specs.declared.program.ProgramFile.{ProgramFile}
use Rattle.elf_mapped.specs.declared.program.ProgramFile.TheVariants.{Whole, Parts}
use Rattle.elf_mapped.specs.Mapped.{mapped_file}

-- all the bytes of a file before its checks
abbrev pub all_bytes : MappedBytes → List ℕ
all_bytes (bytes.Whole whole) = whole.now
all_bytes (bytes.Parts elf) = mapped_file elf.now

-- all the bytes of a file that was checked
abbrev pub program_bytes : ProgramFile → List ℕ
program_bytes (Whole whole) = file whole.elf
program_bytes (Parts elf) = mapped_file elf.now
