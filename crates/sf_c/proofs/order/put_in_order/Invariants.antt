use Rattle.std.proofs.Common.{◌≡◌, ℕ, ◌<◌, get_or, length}
use Rattle.sf_c.proofs.order.put_in_order.Given as goal

abbrev pub invariant-loop-index : goal.invariant-loop-index
invariant-loop-index l = record {
  itself : (k d : ℕ) → k < l.index → get_or l.order k d ≡ k;
  as_many : length l.order ≡ length l.fn.order;
}
