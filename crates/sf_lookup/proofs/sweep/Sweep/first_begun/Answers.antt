use Rattle.std.proofs.Common.{◌≡◌, ◌<◌, List, length, sym, ap, ◌∙◌, rules}
use Rattle.std.specs.BinaryHeap.{heap_items, heap_len}
use Rattle.sf_lookup.specs.declared.span.Span.{Span}
use Rattle.sf_lookup.specs.Span.{answer_of}
use Rattle.sf_lookup.proofs.Sweeping.{none_waits, one_ended, popped, top_decides}
use Rattle.sf_lookup.proofs.sweep.Sweep.first_begun.Goals as goal

pub returns-then-covers-clause-answer : goal.returns-then-covers-clause-answer
returns-then-covers-clause-answer g c =
    let spans = c.loop-top.self.spans.now in
    let within : c.in-Some.top.now.0 < length c.loop-top.self.spans.now = search rules in
    top_decides spans c.args.point (heap_items c.loop-top.self.begun) c.loop-top.self.later.now c.in-Some.top.now c.index-self-top.result c.loop-top.invariant.0 c.loop-top.invariant.1 c.in-Some.ensures.greatest within
    (sym c.covers.ensures ∙ c.if-covers.true)
    ∙ ap (λ (ss : List (Span _)). answer_of ss c.args.point) c.loop-top.invariant.2

pub loop-top-preserved : goal.loop-top-preserved
loop-top-preserved g c =
    let spans = c.loop-top.self.spans.now in
    let within : c.in-Some.top.now.0 < length c.loop-top.self.spans.now = search rules in
    let some : 0 < length (heap_items c.loop-top.self.begun) = search rules in
    let filled : 0 < heap_len c.loop-top.self.begun = search rules in
    let pop = popped c.pop.result (heap_items c.loop-top.self.begun) (heap_items c.pop.new.self) c.in-Some.top.now some c.in-Some.ensures.lookup c.pop.ensures.top c.pop.ensures.permutation c.pop.ensures.heap_order (c.pop.ensures.variant.1 filled) in (
      one_ended spans c.args.point (heap_items c.loop-top.self.begun) (heap_items c.pop.new.self) c.in-Some.top.now c.index-self-top.result c.loop-top.self.later.now within (sym c.covers.ensures ∙ c.if-covers.false) pop
          c.loop-top.invariant.0,
      c.loop-top.invariant.1,
      c.loop-top.invariant.2,
    )

pub returns-clause-answer : goal.returns-clause-answer
returns-clause-answer g c =
    let none : length (heap_items c.loop-top.self.begun) ≡ 0 = search rules in
    none_waits c.loop-top.self.spans.now c.args.point (heap_items c.loop-top.self.begun) c.loop-top.self.later.now c.loop-top.invariant.0 c.loop-top.invariant.1 none
    ∙ ap (λ (ss : List (Span _)). answer_of ss c.args.point) c.loop-top.invariant.2
