use Rattle.std.proofs.Common.{◌≡◌, ◌≤◌, length}
use Rattle.cfa_insn.specs.Remaining.{items_left}
use Rattle.cfa_machine.specs.Pass.{rows_from, state}
use Rattle.cfa_machine.proofs.runner.next_start.Given as goal

abbrev pub invariant-loop-delta : goal.invariant-loop-delta
invariant-loop-delta l = record {
  same : rows_from l.context l.data_alignment_factor (state l.machine) (items_left l.left) ≡ rows_from l.context l.data_alignment_factor (state l.initial.machine) (items_left l.initial.insns);
  most : length (items_left l.left) ≤ length (items_left l.initial.insns);
}

abbrev pub decreases-loop-delta : goal.decreases-loop-delta
decreases-loop-delta l = length (items_left l.left)
