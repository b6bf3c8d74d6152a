use Rattle.std.specs.List.{find}
use Rattle.std.proofs.Common.{◌≡◌, map}
use Rattle.elf_mapped.specs.Program.{program_bytes}
use Rattle.sf_modules.specs.Candidates.{candidates}
use Rattle.sf_modules.specs.Entry.{mapping_view}
use Rattle.sf_modules.specs.LastParts.{candidates_left}
use Rattle.sf_modules.specs.Match.{matches}
use Rattle.sf_modules.specs.Process.{process_view}
use Rattle.sf_modules.proofs.nearest.first_match.Given as goal

abbrev pub invariant-loop-entry : goal.invariant-loop-entry
invariant-loop-entry l =
    find (matches (process_view l.process) l.word (program_bytes l.program.elf) l.program.load l.tail) (candidates_left l.entry-iterator)
    ≡ find (matches (process_view l.process) l.word (program_bytes l.program.elf) l.program.load l.tail) (candidates l.word (map mapping_view l.process.entries.now))
