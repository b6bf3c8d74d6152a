use Rattle.std.proofs.Common.{get_or}
use Rattle.std.proofs.lemmas.List.{get_or_default}
use Rattle.sf_modules.proofs.Reached.{one_reached}
use Rattle.sf_modules.proofs.stretch.reach_of.Goals as goal

pub loop-stretch-preserved : goal.loop-stretch-preserved
loop-stretch-preserved c =
    let xs = c.args.stretches.now in
    let k = c.loop-stretch.stretch-index in
    let s = get_or c.args.stretches.now c.loop-stretch.stretch-index (record { line = 0; start = 0; end = 0 }) in
    one_reached xs k s c.loop-stretch.line c.loop-stretch.end c.further-end.result c.loop-stretch.reach.items c.push.new.self.items c.loop-stretch-test.true (get_or_default xs k _ s c.loop-stretch-test.true) c.requires
    c.further-end.ensures c.in_ok-push.ensures.items c.loop-stretch.invariant
