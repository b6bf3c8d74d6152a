use Rattle.std.proofs.Common.{map, take}
use Rattle.sf_modules.specs.Entry.{mapping_view}
use Rattle.sf_modules.specs.Stretch.{AreOf}
use Rattle.sf_modules.proofs.stretch.stretches_of.Given as goal

abbrev pub invariant-loop-entry : goal.invariant-loop-entry
invariant-loop-entry l = AreOf (map mapping_view l.entries) (map mapping_view (take l.entry-index l.entries)) l.stretches.items
