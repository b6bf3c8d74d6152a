use Rattle.std.proofs.Common.{◌∙◌, ◌++◌, List, ℕ, ap, append_assoc, arith}
use Rattle.sf_write.specs.Stored.{IsStored}
use Rattle.sf_write.proofs.Listed.{IsNumbered, has_each}
use Rattle.sf_write.proofs.StoredFunctions.{stored_says}
use Rattle.sf3_write.specs.Attributes.{attributes_bytes}
use Rattle.sf3_write.specs.Stored.{HasFewRows}
use Rattle.sf3_write.proofs.Listed.{data_more}
use Rattle.sf3_write.proofs.StoredData.{data_of}
use Rattle.sf3_write.proofs.section.push_all_data.Goals as goal

pub push_attributes-requires-clause-width : goal.push_attributes-requires-clause-width
push_attributes-requires-clause-width g c =
    let listed = g.L.StoredList.listed c.args.functions.now in
    let i = c.loop-number.number in
    let f = c.function-stored.result.now in
    let turn : IsNumbered listed i f = record { low = omega (arith, c.loop-number-test.true, c.len-number-end.ensures); is = c.function-stored.ensures } in
    (stored_says c.args.rows.now f (has_each (IsStored c.args.rows.now) listed i f turn c.requires.stored)).narrow

pub push_attributes-requires-clause-few : goal.push_attributes-requires-clause-few
push_attributes-requires-clause-few g c =
    let listed = g.L.StoredList.listed c.args.functions.now in
    let i = c.loop-number.number in
    let f = c.function-stored.result.now in
    let turn : IsNumbered listed i f = record { low = omega (arith, c.loop-number-test.true, c.len-number-end.ensures); is = c.function-stored.ensures } in
    has_each HasFewRows listed i f turn c.requires.few

pub range-requires : goal.range-requires
range-requires g c =
    let listed = g.L.StoredList.listed c.args.functions.now in
    let i = c.loop-number.number in
    let f = c.function-stored.result.now in
    let turn : IsNumbered listed i f = record { low = omega (arith, c.loop-number-test.true, c.len-number-end.ensures); is = c.function-stored.ensures } in
    has_each (IsStored c.args.rows.now) listed i f turn c.requires.stored

pub loop-number-preserved : goal.loop-number-preserved
loop-number-preserved g c =
    let listed = g.L.StoredList.listed c.args.functions.now in
    let i = c.loop-number.number in
    let f = c.function-stored.result.now in
    let turn : IsNumbered listed i f = record { low = omega (arith, c.loop-number-test.true, c.len-number-end.ensures); is = c.function-stored.ensures } in
    let before : List ℕ = c.loop-number.bytes.items in
    let range : List ℕ = c.range.result.now in
    let own = has_each (IsStored c.args.rows.now) listed i f turn c.requires.stored in
    data_more c.args.rows.now listed i f before c.extend_from_slice.new.self.items turn
    (c.in_ok-extend_from_slice.ensures.items ∙ ap (λ (l : List ℕ). l ++ range) c.in_ok-push_attributes.ensures
    ∙ append_assoc before (attributes_bytes f.width f.head) range ∙ ap (λ (l : List ℕ). before ++ l) (data_of c.args.rows.now f range own c.range.ensures.bytes))
    ∙ c.loop-number.invariant
