use Rattle.std.specs.List.{AllAdjacentBelow}
use Rattle.std.proofs.Common.{◌+◌, ◌≤◌}
use Rattle.sf_c.specs.declared.modules.KiblawenModule.{KiblawenModule}
use Rattle.sf_c.proofs.modules.kiblawen_in_order.Given as goal

abbrev pub invariant-loop-i : goal.invariant-loop-i
invariant-loop-i l = AllAdjacentBelow (λ (m : KiblawenModule) (n : KiblawenModule). m.start + m.size ≤ n.start) l.modules l.i
