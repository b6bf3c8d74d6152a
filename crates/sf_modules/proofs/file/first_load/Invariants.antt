use Rattle.std.specs.List.{find}
use Rattle.std.proofs.Common.{◌≡◌}
use Rattle.elf_mapped.specs.Program.{program_bytes}
use Rattle.sf_modules.specs.File.{first_load, is_load_header}
use Rattle.core_notes.proofs.Numbered.{left_of}
use Rattle.sf_modules.proofs.file.first_load.Given as goal

abbrev pub invariant-loop-i : goal.invariant-loop-i
invariant-loop-i l = find (is_load_header (program_bytes l.elf)) (left_of l.count l.i) ≡ first_load (program_bytes l.elf)
