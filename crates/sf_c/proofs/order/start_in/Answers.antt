use Rattle.std.proofs.Common.{length, sym}
use Rattle.std.proofs.lemmas.Bool.{ltb-true}
use Rattle.sf_c.proofs.Ordered.{start_got, start_past}
use Rattle.sf_c.proofs.order.start_in.Goals as goal

pub returns-in-Some : goal.returns-in-Some
returns-in-Some c =
    start_got c.args.modules.now c.args.index c.in-Some.module.now (ltb-true c.args.index (length c.args.modules.now) (sym c.in-Some.ensures.lookup.0)) c.in-Some.ensures.lookup.1

pub returns-in-None : goal.returns-in-None
returns-in-None c = start_past c.args.modules.now c.args.index c.in-None.ensures.lookup.3
