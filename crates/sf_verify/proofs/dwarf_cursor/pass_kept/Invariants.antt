use Rattle.std.proofs.Common.{◌-◌, length}
use Rattle.sf_verify.specs.Asking.{KeptPassed}
use Rattle.sf_verify.proofs.dwarf_cursor.pass_kept.Given as goal

abbrev pub invariant-loop-next : goal.invariant-loop-next
invariant-loop-next l = KeptPassed l.kept l.next l.pc

abbrev pub decreases-loop-next : goal.decreases-loop-next
decreases-loop-next l = length l.kept - l.next
