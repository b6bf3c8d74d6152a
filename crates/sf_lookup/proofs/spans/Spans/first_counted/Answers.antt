use Rattle.std.proofs.Common.{◌<◌, ◌^◌, suc, None, length, ◌∙◌, arith}
use Rattle.std.proofs.lemmas.List.{get_or_default}
use Rattle.sf_lookup.proofs.Covering.{none_upto, upto_last}
use Rattle.sf_lookup.proofs.spans.Spans.first_counted.Goals as goal

pub returns-in_err-last-clause-answer : goal.returns-in_err-last-clause-answer
returns-in_err-last-clause-answer g c = λ spans right.
    let small : c.args.pc < 2 ^ 64 = c.ranges.pc.fits in
    c.from_residual.ensures ∙ right.answers c.args.pc 0 small (none_upto c.args.self.now.points.items c.args.pc c.in_err-last.ensures.last)

pub returns-clause-answer : goal.returns-clause-answer
returns-clause-answer g c = λ spans right.
    let m = c.args.self.now in
    let last = c.in_ok-last.last in
    let h = upto_last m.points.items c.args.pc last m.rise c.in_ok-last.ensures.last in
    let within = h.within in
    let lt : last < length m.answers.items = omega (within, m.counted, arith) in
    let small : c.args.pc < 2 ^ 64 = c.ranges.pc.fits in
    c.index.ensures ∙ get_or_default m.answers.items last c.index.result.now None lt ∙ right.answers c.args.pc (suc last) small h
