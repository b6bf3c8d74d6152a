use Rattle.std.proofs.Common.{◌≤◌, ◌-◌, None, Some}
use Rattle.sf_verify.specs.Asking.{IsReady, IsSame, contents_of}
use Rattle.sf_verify.specs.Comparing.{Compares}
use Rattle.sf_verify.proofs.sweep.compare_run.Given as goal

abbrev pub invariant-loop-known : goal.invariant-loop-known
invariant-loop-known l = record {
  from : l.from ≤ l.pc;
  to : l.pc ≤ l.last;
  same : IsSame l.initial.dwarf l.dwarf;
  ready : IsReady l.dwarf l.pc;
  compared : Compares (λ pc. Some l.said) (contents_of l.initial.dwarf) l.from l.pc None;
}

abbrev pub decreases-loop-known : goal.decreases-loop-known
decreases-loop-known l = l.last - l.pc
