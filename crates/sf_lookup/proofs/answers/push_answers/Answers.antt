use Rattle.std.proofs.Common.{◌≡◌, ◌+◌, ◌-◌, ◌≤◌, ℕ, List, ◌++◌, get_or, map, ap, subst, ◌∙◌, rules, arith}
use Rattle.std.proofs.lemmas.List.{take_all}
use Rattle.sf_lookup.specs.Span.{answer_of}
use Rattle.sf_lookup.specs.Sweep.{IsAt}
use Rattle.sf_lookup.proofs.Covering.{answers_more}
use Rattle.sf_lookup.proofs.Sweeping.{at_later}
use Rattle.sf_lookup.proofs.answers.push_answers.Goals as goal

pub loop-point-init : goal.loop-point-init
loop-point-init g c = (c.in_ok-sweep.ensures.at (get_or c.args.points.now 0 0), c.in_ok-sweep.ensures.spans, search rules)

pub answer_at-requires : goal.answer_at-requires
answer_at-requires g c =
    let points = c.args.points.now in
    let i = c.loop-point.point-index in
    let rise : get_or points (i - 1) 0 ≤ get_or points i 0 = c.requires (i - 1) i 0 (omega arith) c.loop-point-test.true in
    at_later c.loop-point.sweep.spans.now (get_or points (i - 1) 0) (get_or points i 0) _ _ rise c.loop-point.invariant.0

pub loop-point-preserved : goal.loop-point-preserved
loop-point-preserved g c =
    let points = c.args.points.now in
    let i = c.loop-point.point-index in
    let on : i ≡ i + 1 - 1 = omega arith in (
      subst (λ (k : ℕ). IsAt (get_or points k 0) c.answer_at.new.self) on c.in_ok-answer_at.ensures.at,
      c.in_ok-answer_at.ensures.spans ∙ c.loop-point.invariant.1,
      answers_more c.args.spans.now c.loop-point.sweep.spans.now points i c.args.answers.now.items c.loop-point.answers.items c.push.new.self.items c.in_ok-answer_at.field-0 c.loop-point.invariant.1
          c.loop-point-test.true c.in_ok-answer_at.ensures.answer c.loop-point.invariant.2 c.in_ok-push.ensures.items,
    )

pub returns : goal.returns
returns g c =
    let points = c.args.points.now in
    c.loop-point.invariant.2
    ∙ ap (λ (ps : List ℕ). c.args.answers.now.items ++ map (answer_of c.args.spans.now) ps) (take_all c.loop-point.point-index points c.loop-point-test.false)
