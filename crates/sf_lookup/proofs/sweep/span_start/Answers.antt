use Rattle.std.proofs.Common.{length, sym}
use Rattle.std.proofs.lemmas.Bool.{ltb-true}
use Rattle.sf_lookup.proofs.Sweeping.{start_got, start_past}
use Rattle.sf_lookup.proofs.sweep.span_start.Goals as goal

pub returns-in-Some : goal.returns-in-Some
returns-in-Some g c =
    start_got c.args.spans.now c.args.number c.in-Some.span.now (ltb-true c.args.number (length c.args.spans.now) (sym c.in-Some.ensures.lookup.0)) c.in-Some.ensures.lookup.1

pub returns-in-None : goal.returns-in-None
returns-in-None g c = start_past c.args.spans.now c.args.number c.in-None.ensures.lookup.3
