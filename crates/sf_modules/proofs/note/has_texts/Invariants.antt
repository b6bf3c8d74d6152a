use Rattle.std.specs.Prelude.{is_some}
use Rattle.std.proofs.Common.{◌≡◌, ◌-◌}
use Rattle.sf_modules.specs.TextsRead.{texts_in}
use Rattle.sf_modules.proofs.note.has_texts.Given as goal

abbrev pub invariant-loop-passed : goal.invariant-loop-passed
invariant-loop-passed l = is_some (texts_in (l.count - l.passed) l.rest) ≡ is_some (texts_in l.count l.bytes)
