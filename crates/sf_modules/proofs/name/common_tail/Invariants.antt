use Rattle.std.proofs.Common.{◌≡◌, ◌≤◌, ◌+◌, length, reverse}
use Rattle.sf_modules.specs.Name.{common_tail}
use Rattle.sf_modules.proofs.Names.{in_common}
use Rattle.sf_modules.proofs.name.common_tail.Given as goal

abbrev pub invariant-loop-passed : goal.invariant-loop-passed
invariant-loop-passed l = record {
  few : l.parts ≤ l.passed;
  left : length l.rest + l.passed ≡ length l.name;
  same : common_tail l.name l.other ≡ l.parts + in_common (reverse l.rest) (reverse l.others);
}
