use Rattle.std.proofs.Common.{ℕ, All, List, ◌+◌, ◌*◌, ◌≤◌, Vec, Global, length, sym, ap, subst, take, arith}
use Rattle.std.proofs.lemmas.List.Sorted.{IsNonDecreasingBy-from_sort}
use Rattle.sf_lookup.specs.Span.{HasEnds}
use Rattle.sf_lookup.proofs.Covering.{ends_more, ends_moved, one_longer, start_more}
use Rattle.sf_lookup.proofs.points.points_of.Goals as goal
use Rattle.sf_lookup.proofs.points.points_of.Goals.{in-Some+in_ok-push-2, in_default}

pub loop-span-preserved : goal.loop-span-preserved
loop-span-preserved g c =
    let spans = c.args.spans.now in
    let i = c.loop-span.span-index in
    let old = c.loop-span.points.items in
    let first = one_longer old c.push.new.self.items c.span-item.result.start c.in_ok-push.ensures.items in
    elim c.match-checked_add.branch [
      | in-Some+in_ok-push-2 w ↦
          let second = one_longer c.push.new.self.items w.push-in-Some.new.self.items w.in-Some.end w.in_ok-push-2.ensures.items in
          subst (λ (points : List ℕ). All (HasEnds points) (take (i + 1) spans) × (length points ≤ 2 * (i + 1))) (sym (ap (λ (v : Vec ℕ Global). v.items) w.points-is)) (
            ends_more spans i c.span-item.result old c.push.new.self.items w.push-in-Some.new.self.items w.in-Some.end c.loop-span-test.true c.span-item.is w.in-Some.ensures.1 c.in_ok-push.ensures.items
                w.in_ok-push-2.ensures.items c.loop-span.invariant.0,
            omega (first, second, c.loop-span.invariant.1, arith),
          )
      | in_default w ↦
          subst (λ (points : List ℕ). All (HasEnds points) (take (i + 1) spans) × (length points ≤ 2 * (i + 1))) (sym (ap (λ (v : Vec ℕ Global). v.items) w.points-is)) (
            start_more spans i c.span-item.result old c.push.new.self.items c.loop-span-test.true c.span-item.is (let beyond = w.in_default.ensures in omega (beyond, arith)) c.in_ok-push.ensures.items c.loop-span.invariant.0,
            omega (first, c.loop-span.invariant.1, arith),
          )
    ]

pub returns-clause-rise : goal.returns-clause-rise
returns-clause-rise g c = IsNonDecreasingBy-from_sort (λ (x : ℕ). x) c.sort_unstable.new.self.items c.sort_unstable.ensures.sorted

pub returns-clause-ends : goal.returns-clause-ends
returns-clause-ends g c = ends_moved c.args.spans.now c.loop-span.span-index c.loop-span.points.items c.sort_unstable.new.self.items c.loop-span-test.false c.sort_unstable.ensures.permutation c.loop-span.invariant.0

pub returns-clause-most : goal.returns-clause-most
returns-clause-most g c = omega (c.sort_unstable.ensures.len, c.loop-span.invariant.1, c.loop-span.auto.span-index-end, arith)
