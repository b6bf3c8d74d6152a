use Rattle.std.proofs.Common.{◌≡◌, drop}
use Rattle.std.specs.List.{find}
use Rattle.sf_model.specs.Lookup.{contains}
use Rattle.sf_decode.specs.View.{table_of}
use Rattle.sf_lookup.proofs.function.by_scan.Given as goal

abbrev pub invariant-loop-i : goal.invariant-loop-i
invariant-loop-i l = find (contains l.pc) (drop l.i (table_of l.view).functions) ≡ find (contains l.pc) (table_of l.view).functions
