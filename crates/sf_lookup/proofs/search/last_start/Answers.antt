use Rattle.std.proofs.Common.{arith}
use Rattle.sf_lookup.proofs.Halving.{lower, upper}
use Rattle.sf_lookup.proofs.search.last_start.Goals as goal

pub loop-low-preserved-then-start_at-pc : goal.loop-low-preserved-then-start_at-pc
loop-low-preserved-then-start_at-pc g c =
    upper (g.S.Starts.starts c.args.starts.now) c.args.pc c.loop-low.low c.loop-low.high c.args.steps.now c.loop-low.steps c.start_at.new.steps c.loop-low.invariant c.loop-low-test.true
    c.start_at.ensures.step (omega (c.start_at.ensures.value, c.if-start_at-pc.true, arith))

pub loop-low-preserved : goal.loop-low-preserved
loop-low-preserved g c =
    lower (g.S.Starts.starts c.args.starts.now) c.args.pc c.loop-low.low c.loop-low.high c.args.steps.now c.loop-low.steps c.start_at.new.steps c.requires c.loop-low.invariant c.loop-low-test.true
    c.start_at.ensures.step (omega (c.start_at.ensures.value, c.if-start_at-pc.false, arith))
