use Rattle.std.proofs.Common.{ℕ, ◌<◌, ◌≤◌, subst}
use Rattle.sf_lookup.proofs.Sweeping.{first_waits, others_later}
use Rattle.sf_lookup.proofs.sweep.Sweep.take_begun.Goals as goal

pub returns-then-span_start-point-clause-later : goal.returns-then-span_start-point-clause-later
returns-then-span_start-point-clause-later g c =
    others_later c.loop-self.self.spans.now c.args.point c.loop-self.self.later.now _ (subst (λ (n : ℕ). c.args.point < n) c.span_start.ensures c.if-span_start-point.true) c.loop-self.invariant.0.rise

pub loop-self-preserved : goal.loop-self-preserved
loop-self-preserved g c = (
  first_waits c.loop-self.self.spans.now c.args.point _ _ c.loop-self.self.later.now _ c.in-len1-up.len_at_least (subst (λ (n : ℕ). n ≤ c.args.point) c.span_start.ensures c.if-span_start-point.false) c.in_ok-push.ensures.permutation
      c.in_ok-push.ensures.heap_order c.loop-self.invariant.0,
  c.loop-self.invariant.1,
)
