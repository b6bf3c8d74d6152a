use Rattle.std.specs.List.{AllAdjacentBelow}
use Rattle.std.proofs.Common.{◌+◌, ◌≤◌, ℕ}
use Rattle.sf_c.specs.Order.{size_in, module_start}
use Rattle.sf_c.proofs.order.are_apart.Given as goal

abbrev pub invariant-loop-i : goal.invariant-loop-i
invariant-loop-i l = AllAdjacentBelow (λ (one : ℕ) (next : ℕ). module_start l.modules one + size_in l.modules one ≤ module_start l.modules next) l.order l.i
