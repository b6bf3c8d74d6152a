use Rattle.std.proofs.Common.{◌≡◌, ◌-◌, length}
use Rattle.sf_modules.specs.Name.{last_part}
use Rattle.sf_modules.proofs.Names.{last_from}
use Rattle.sf_modules.proofs.name.last_part.Given as goal

abbrev pub invariant-loop-passed : goal.invariant-loop-passed
invariant-loop-passed l = last_from (length l.name - l.passed) l.name ≡ last_part l.name
