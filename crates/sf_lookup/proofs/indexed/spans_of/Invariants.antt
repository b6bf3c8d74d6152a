use Rattle.std.proofs.Common.{◌≡◌, take}
use Rattle.sf_decode.specs.View.{table_of}
use Rattle.sf_lookup.specs.Numbered.{numbered}
use Rattle.sf_lookup.proofs.indexed.spans_of.Given as goal

abbrev pub invariant-loop-i : goal.invariant-loop-i
invariant-loop-i l = l.spans.items ≡ numbered 0 (take l.i (table_of l.view).functions)
