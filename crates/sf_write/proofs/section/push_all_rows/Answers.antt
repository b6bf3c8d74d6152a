use Rattle.std.proofs.Common.{◌∙◌, arith}
use Rattle.sf_write.specs.Stored.{IsStored}
use Rattle.sf_write.proofs.Listed.{IsNumbered, has_each, rows_more}
use Rattle.sf_write.proofs.section.push_all_rows.Goals as goal

pub range-requires : goal.range-requires
range-requires g c =
    let listed = g.L.StoredList.listed c.args.functions.now in
    let i = c.loop-number.number in
    let f = c.function.result.now in
    let turn : IsNumbered listed i f = record { low = omega (arith, c.loop-number-test.true, c.len-number-end.ensures); is = c.function.ensures } in
    has_each (IsStored c.args.rows.now) listed i f turn c.requires

pub loop-number-preserved : goal.loop-number-preserved
loop-number-preserved g c =
    let listed = g.L.StoredList.listed c.args.functions.now in
    let i = c.loop-number.number in
    let f = c.function.result.now in
    let turn : IsNumbered listed i f = record { low = omega (arith, c.loop-number-test.true, c.len-number-end.ensures); is = c.function.ensures } in
    rows_more c.args.rows.now listed i f c.loop-number.bytes.items c.range.result.now c.extend_from_slice.new.self.items turn c.range.ensures.bytes c.in_ok-extend_from_slice.ensures.items ∙ c.loop-number.invariant
