use Rattle.std.specs.List.{list_all, range_with_len}
use Rattle.std.proofs.Common.{◌≡◌}
use Rattle.elf_read.specs.Sections.{segment_total}
use Rattle.elf_mapped.specs.Program.{program_bytes}
use Rattle.core_notes.proofs.Numbered.{left_of}
use Rattle.sf_modules.specs.Fit.{segment_fits}
use Rattle.sf_modules.specs.Process.{process_view}
use Rattle.sf_modules.proofs.fit.all_fit.Given as goal

abbrev pub invariant-loop-i : goal.invariant-loop-i
invariant-loop-i l =
    list_all (segment_fits (process_view l.process) (program_bytes l.program.elf) l.named.name.now l.base) (left_of (segment_total (program_bytes l.program.elf)) l.i)
    ≡ list_all (segment_fits (process_view l.process) (program_bytes l.program.elf) l.named.name.now l.base) (range_with_len 0 (segment_total (program_bytes l.program.elf)))
