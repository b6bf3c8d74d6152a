use Rattle.std.specs.List.{list_any}
use Rattle.std.proofs.Common.{◌≡◌, map}
use Rattle.elf_mapped.specs.Program.{program_bytes}
use Rattle.sf_modules.specs.Candidates.{candidates}
use Rattle.sf_modules.specs.Entry.{mapping_view}
use Rattle.sf_modules.specs.LastParts.{candidates_left}
use Rattle.sf_modules.specs.Match.{matches_too}
use Rattle.sf_modules.specs.Process.{process_view}
use Rattle.sf_modules.proofs.nearest.other_matches.Given as goal

abbrev pub invariant-loop-entry : goal.invariant-loop-entry
invariant-loop-entry l =
    list_any (matches_too (process_view l.process) l.word (program_bytes l.program.elf) l.program.load l.tail (mapping_view l.found)) (candidates_left l.entry-iterator)
    ≡ list_any (matches_too (process_view l.process) l.word (program_bytes l.program.elf) l.program.load l.tail (mapping_view l.found)) (candidates l.word (map mapping_view l.process.entries.now))
