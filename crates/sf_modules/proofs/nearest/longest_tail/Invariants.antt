use Rattle.std.specs.Prelude.{max}
use Rattle.std.proofs.Common.{◌≡◌, map}
use Rattle.sf_modules.specs.Entry.{mapping_view}
use Rattle.sf_modules.specs.LastParts.{candidates_left}
use Rattle.sf_modules.specs.Match.{longest_tail}
use Rattle.sf_modules.proofs.nearest.longest_tail.Given as goal

abbrev pub invariant-loop-entry : goal.invariant-loop-entry
invariant-loop-entry l = max l.longest (longest_tail l.word (candidates_left l.entry-iterator)) ≡ longest_tail l.word (map mapping_view l.process.entries.now)
