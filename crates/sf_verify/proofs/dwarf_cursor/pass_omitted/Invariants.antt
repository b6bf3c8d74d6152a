use Rattle.std.proofs.Common.{◌-◌, length}
use Rattle.sf_verify.specs.Asking.{OmittedPassed}
use Rattle.sf_verify.proofs.dwarf_cursor.pass_omitted.Given as goal

abbrev pub invariant-loop-next : goal.invariant-loop-next
invariant-loop-next l = OmittedPassed l.omitted.functions l.next l.pc

abbrev pub decreases-loop-next : goal.decreases-loop-next
decreases-loop-next l = length l.omitted.functions - l.next
