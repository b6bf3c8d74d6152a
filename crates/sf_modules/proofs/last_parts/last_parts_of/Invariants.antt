use Rattle.std.proofs.Common.{◌≡◌, ◌-◌, drop, map, reverse}
use Rattle.sf_modules.specs.Candidates.{last_parts, next_same}
use Rattle.sf_modules.specs.Entry.{mapping_view}
use Rattle.sf_modules.specs.LastParts.{AreFirst}
use Rattle.sf_modules.proofs.last_parts.last_parts_of.Given as goal

abbrev pub invariant-loop-passed : goal.invariant-loop-passed
invariant-loop-passed l = record {
  first : AreFirst l.first (l.count - l.passed) (drop (l.count - l.passed) (last_parts (map mapping_view l.entries)));
  next : reverse l.next.items ≡ next_same (l.count - l.passed) (drop (l.count - l.passed) (last_parts (map mapping_view l.entries)));
}
