use Rattle.std.proofs.Common.{◌∙◌, arith}
use Rattle.sf_write.specs.declared.stored.StoredFunction.{StoredFunction}
use Rattle.sf_write.specs.Stored.{stored_fits}
use Rattle.sf_write.proofs.Listed.{IsNumbered, all_more, one_more, part_below}
use Rattle.sf3_write.proofs.Listed.{entry_more}
use Rattle.sf3_write.proofs.entry.push_entries.Goals as goal

pub overflow_add-place : goal.overflow_add-place
overflow_add-place g c =
    let listed = g.L.StoredList.listed c.args.functions.now in
    let i = c.loop-number.number in
    let f = c.function-stored.result.now in
    let turn : IsNumbered listed i f = record { low = omega (arith, c.loop-number-test.true, c.len-number-end.ensures); is = c.function-stored.ensures } in
    let below = part_below (λ (x : StoredFunction). x.len) listed i f turn in
    record { fits = omega (arith, below, c.requires.len) }

pub overflow_add-place-in-loop-number : goal.overflow_add-place-in-loop-number
overflow_add-place-in-loop-number g c =
    let listed = g.L.StoredList.listed c.args.functions.now in
    let i = c.loop-number.number in
    let f = c.function-stored.result.now in
    let turn : IsNumbered listed i f = record { low = omega (arith, c.loop-number-test.true, c.len-number-end.ensures); is = c.function-stored.ensures } in
    let below = part_below (λ (x : StoredFunction). x.len) listed i f turn in
    record { fits = omega (arith, below, turn.low, c.loop-number.invariant.placed, c.requires.count, c.requires.len) }

pub loop-number-preserved : goal.loop-number-preserved
loop-number-preserved g c =
    let listed = g.L.StoredList.listed c.args.functions.now in
    let i = c.loop-number.number in
    let f = c.function-stored.result.now in
    let turn : IsNumbered listed i f = record { low = omega (arith, c.loop-number-test.true, c.len-number-end.ensures); is = c.function-stored.ensures } in
    let bytes = one_more (λ (x : StoredFunction). x.len) listed i f turn in
    record {
      placed = omega (arith, bytes, c.loop-number.invariant.placed);
      entries = entry_more c.args.at i c.loop-number.place listed f c.loop-number.bytes.items c.push_entry.new.bytes.items turn c.in_ok-push_entry.ensures.ok ∙ c.loop-number.invariant.entries;
      fits = all_more stored_fits listed i f turn c.loop-number.invariant.fits c.in_ok-push_entry.ensures.fits;
    }
