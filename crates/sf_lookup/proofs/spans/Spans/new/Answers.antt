use Rattle.std.proofs.Common.{arith}
use Rattle.sf_lookup.proofs.Covering.{as_many, fits_word, in_order}
use Rattle.sf_lookup.proofs.spans.Spans.new.Goals as goal

pub invariant_of-result : goal.invariant_of-result
invariant_of-result g c = record {
  rise = c.in_ok-points.ensures.rise;
  counted =
      as_many c.args.spans.now c.in_ok-points.points.items c.deref.result.now c.in_ok-answers.answers.items c.push_answers.new.answers.items c.deref.ensures.value c.in_ok-answers.ensures.items
      c.in_ok-push_answers.ensures;
  few =
      let fits = fits_word c.len.result c.try_from.result c.is_err.result c.try_from.ensures c.is_err.ensures.value c.if-is_err.false in
      omega (fits, c.len.ensures, c.in_ok-points.points.ok.0, arith);
}

pub returns : goal.returns
returns g c = record {
  answers =
      in_order c.args.spans.now c.in_ok-points.points.items c.deref.result.now c.in_ok-answers.answers.items c.push_answers.new.answers.items c.deref.ensures.value c.in_ok-answers.ensures.items
      c.in_ok-points.ensures.rise c.in_ok-points.ensures.ends c.in_ok-push_answers.ensures;
  most = c.in_ok-points.ensures.most;
}
