use Rattle.std.proofs.Common.{arith}
use Rattle.sf_write.specs.declared.stored.StoredFunction.{StoredFunction}
use Rattle.sf_write.proofs.Listed.{IsNumbered, one_more, part_below}
use Rattle.sf_functions.proofs.counts.count_rows.Goals as goal

pub overflow_add-rows : goal.overflow_add-rows
overflow_add-rows g c =
    let listed = g.L.StoredList.listed c.args.functions.now in
    let i = c.loop-number.number in
    let f = c.function.result.now in
    let turn : IsNumbered listed i f = record { low = omega (arith, c.loop-number-test.true, c.len-number-end.ensures); is = c.function.ensures } in
    let below = part_below (λ (x : StoredFunction). x.head.rows) listed i f turn in
    record { fits = omega (arith, below, c.loop-number.invariant, c.requires) }

pub loop-number-preserved : goal.loop-number-preserved
loop-number-preserved g c =
    let listed = g.L.StoredList.listed c.args.functions.now in
    let i = c.loop-number.number in
    let f = c.function.result.now in
    let turn : IsNumbered listed i f = record { low = omega (arith, c.loop-number-test.true, c.len-number-end.ensures); is = c.function.ensures } in
    let more = one_more (λ (x : StoredFunction). x.head.rows) listed i f turn in
    omega (arith, more, c.loop-number.invariant)
