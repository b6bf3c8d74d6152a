use Rattle.std.proofs.Common.{arith}
use Rattle.sf_link_c.specs.Omissions.{plt_shown}
use Rattle.sf_link_c.proofs.Listing.{all_written, none_written, one_more}
use Rattle.sf_link_c.proofs.omissions.write_plts.Goals as goal

pub loop-i-init : goal.loop-i-init
loop-i-init c = none_written plt_shown c.args.plts.now c.args.room.now

pub loop-i-preserved : goal.loop-i-preserved
loop-i-preserved c =
    one_more plt_shown c.args.plts.now c.loop-i.i c.loop-i.room c.args.room.now c.plt_shown.result _
    (omega (c.loop-i-test.true, c.min-count.ensures, arith)) (omega (c.loop-i-test.true, c.min-count.ensures, arith)) c.plt_shown.ensures c.loop-i.invariant

pub returns : goal.returns
returns c = all_written plt_shown c.args.plts.now c.loop-i.i c.loop-i.room c.args.room.now (omega (c.loop-i-test.false, c.loop-i.auto.i-end, c.min-count.ensures, arith)) c.loop-i.invariant
