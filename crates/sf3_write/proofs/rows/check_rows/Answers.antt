use Rattle.std.proofs.Common.{◌≡◌, ◌∙◌, All, List, ap, arith, length, subst, sym, take}
use Rattle.std.proofs.Math.Seq.{take-length}
use Rattle.sf_write.specs.declared.stored.StoredFunction.{StoredFunction}
use Rattle.sf_write.proofs.Listed.{IsNumbered}
use Rattle.sf3_write.specs.Stored.{HasFewRows}
use Rattle.sf3_write.proofs.Listed.{each_more, few, few_more, many_here, not_few}
use Rattle.sf3_write.proofs.rows.check_rows.Goals as goal

pub returns-then-head-clause-fault : goal.returns-then-head-clause-fault
returns-then-head-clause-fault g c =
    let listed = g.L.StoredList.listed c.args.functions.now in
    let i = c.loop-number.number in
    let f = c.function.result.now in
    let turn : IsNumbered listed i f = record { low = omega (arith, c.loop-number-test.true, c.len-number-end.ensures); is = c.function.ensures } in
    sym c.loop-number.invariant.first ∙ many_here listed i f turn (not_few f.head.rows (omega (arith, c.if-head.true)))

pub loop-number-preserved : goal.loop-number-preserved
loop-number-preserved g c =
    let listed = g.L.StoredList.listed c.args.functions.now in
    let i = c.loop-number.number in
    let f = c.function.result.now in
    let turn : IsNumbered listed i f = record { low = omega (arith, c.loop-number-test.true, c.len-number-end.ensures); is = c.function.ensures } in
    record {
      each = each_more HasFewRows listed i f turn c.loop-number.invariant.each (omega (arith, c.if-head.false));
      first = few_more listed i f turn (few f.head.rows (omega (arith, c.if-head.false))) ∙ c.loop-number.invariant.first;
    }

pub returns-clause-each : goal.returns-clause-each
returns-clause-each g c =
    let listed = g.L.StoredList.listed c.args.functions.now in
    let end : c.loop-number.number ≡ length listed = omega (arith, c.loop-number-test.false, c.loop-number.auto.number-end, c.len-number-end.ensures) in
    let whole : take c.loop-number.number listed ≡ listed = ap (λ k. take k listed) end ∙ take-length listed in
    subst (λ (fs : List StoredFunction). All HasFewRows fs) whole c.loop-number.invariant.each
