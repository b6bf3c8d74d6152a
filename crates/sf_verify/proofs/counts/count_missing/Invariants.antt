use Rattle.std.proofs.Common.{◌≡◌, ◌<◌, get_or, length, take}
use Rattle.std.specs.List.{filter}
use Rattle.sf_model.specs.declared.function.Func.{Func}
use Rattle.sf_merge.specs.Located.{located_functions}
use Rattle.sf_verify.specs.Counting.{StartBefore, is_absent}
use Rattle.sf_verify.proofs.counts.count_missing.Given as goal

abbrev pub invariant-loop-place : goal.invariant-loop-place
invariant-loop-place l = record {
  before : (d : Func) → l.place < length l.kept → StartBefore l.functions l.next (get_or l.kept l.place d).start;
  count : l.missing ≡ length (filter (is_absent (located_functions l.functions)) (take l.place l.kept));
}
