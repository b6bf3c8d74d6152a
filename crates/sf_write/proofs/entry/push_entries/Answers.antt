use Rattle.std.proofs.Common.{◌∙◌, Option, ℕ, arith, rules, subst}
use Rattle.std.specs.Prelude.{IfErr}
use Rattle.sf_write.specs.declared.stored.StoredFunction.{StoredFunction}
use Rattle.sf_write.specs.Reach.{Refuses}
use Rattle.sf_write.specs.Stored.{HasWidth, stored_fits}
use Rattle.sf_write.proofs.Listed.{IsNumbered, all_more, entry_more, has_each, one_more, part_below, reach_more, refused}
use Rattle.sf_write.proofs.entry.push_entries.Goals as goal

pub push_entry-requires-clause-width : goal.push_entry-requires-clause-width
push_entry-requires-clause-width g c =
    let listed = g.L.StoredList.listed c.args.functions.now in
    let i = c.loop-number.number in
    let f = c.function-stored.result.now in
    let turn : IsNumbered listed i f = record { low = omega (arith, c.loop-number-test.true, c.len-number-end.ensures); is = c.function-stored.ensures } in
    has_each HasWidth listed i f turn c.requires.widths

pub returns-in_err-push_entry-clause-fault : goal.returns-in_err-push_entry-clause-fault
returns-in_err-push_entry-clause-fault g c =
    let listed = g.L.StoredList.listed c.args.functions.now in
    let i = c.loop-number.number in
    let f = c.function-stored.result.now in
    let turn : IsNumbered listed i f = record { low = omega (arith, c.loop-number-test.true, c.len-number-end.ensures); is = c.function-stored.ensures } in
    subst (λ (o : Option ℕ). IfErr c.from_residual.result (λ e. Refuses e o)) c.loop-number.invariant.reach
    (refused c.from_residual.result c.args.at i listed f turn (search rules))

pub overflow_add-place : goal.overflow_add-place
overflow_add-place g c =
    let listed = g.L.StoredList.listed c.args.functions.now in
    let i = c.loop-number.number in
    let f = c.function-stored.result.now in
    let turn : IsNumbered listed i f = record { low = omega (arith, c.loop-number-test.true, c.len-number-end.ensures); is = c.function-stored.ensures } in
    let below = part_below (λ (x : StoredFunction). x.len) listed i f turn in
    record { fits = omega (arith, below, c.loop-number.invariant.placed, c.requires.len) }

pub loop-number-preserved : goal.loop-number-preserved
loop-number-preserved g c =
    let listed = g.L.StoredList.listed c.args.functions.now in
    let i = c.loop-number.number in
    let f = c.function-stored.result.now in
    let turn : IsNumbered listed i f = record { low = omega (arith, c.loop-number-test.true, c.len-number-end.ensures); is = c.function-stored.ensures } in
    let bytes = one_more (λ (x : StoredFunction). x.len) listed i f turn in
    record {
      placed = omega (arith, bytes, c.loop-number.invariant.placed);
      entries = entry_more c.args.at i c.loop-number.place listed f c.loop-number.bytes.items c.push_entry.new.bytes.items turn c.in_ok-push_entry.ensures.ok ∙ c.loop-number.invariant.entries;
      fits = all_more stored_fits listed i f turn c.loop-number.invariant.fits c.in_ok-push_entry.ensures.fits;
      reach = reach_more c.args.at i listed f turn c.in_ok-push_entry.ensures.in_reach ∙ c.loop-number.invariant.reach;
    }
