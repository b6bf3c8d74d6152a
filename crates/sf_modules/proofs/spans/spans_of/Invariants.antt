use Rattle.std.proofs.Common.{◌≡◌, map, take}
use Rattle.sf_modules.specs.Entry.{mapping_view}
use Rattle.sf_modules.specs.Module.{module_view}
use Rattle.sf_modules.specs.Span.{entry_span}
use Rattle.sf_modules.proofs.spans.spans_of.Given as goal

abbrev pub invariant-loop-entry : goal.invariant-loop-entry
invariant-loop-entry l = l.spans.items ≡ map (entry_span (map module_view l.modules)) (map mapping_view (take l.entry-index l.entries))
