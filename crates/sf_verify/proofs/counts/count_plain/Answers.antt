use Rattle.std.proofs.Common.{◌≡◌, ◌+◌, ◌<◌, Bool, arith, get_or, length, take, ap, sym, ◌∙◌}
use Rattle.std.specs.List.{filter}
use Rattle.std.proofs.lemmas.List.Filters.{length-filter_more}
use Rattle.sf_model.specs.declared.function.FuncHead.{FuncHead}
use Rattle.sf_decode.specs.View.{function_of, table_of}
use Rattle.sf_verify.specs.Agreement.{is_plain, is_plain_shape}
use Rattle.sf_verify.proofs.Counted.{one_if, taken_most}
use Rattle.sf_verify.proofs.counts.count_plain.Goals as goal
use Rattle.sf_verify.proofs.counts.count_plain.Goals.{then-is_plain_shape, else-is_plain_shape}

pub overflow_add-count : goal.overflow_add-count
overflow_add-count c =
    let most = taken_most is_plain (table_of c.args.view.now).functions c.loop-number.number in
    record { fits = omega (arith, most, c.loop-number.invariant, c.loop-number-test.true, c.len-number-end.ensures.most) }

pub loop-number-preserved : goal.loop-number-preserved
loop-number-preserved c =
    let functions = (table_of c.args.view.now).functions in
    let number = c.loop-number.number in
    let f = function_of c.args.view.now number in
    let within : number < length functions = omega (arith, c.loop-number-test.true, c.len-number-end.ensures.value) in
    let more = length-filter_more is_plain functions number f within in
    let there : get_or functions number f ≡ f = c.functions_are_numbered.ensures number f within in
    let plain : c.is_plain_shape.result ≡ is_plain (get_or functions number f) = c.is_plain_shape.ensures ∙ ap (λ (h : FuncHead). is_plain_shape h.shape) c.func.ensures ∙ sym (ap is_plain there) in
    let next : length (filter is_plain (take (number + 1) functions)) ≡ length (filter is_plain (take number functions)) + one_if c.is_plain_shape.result = more ∙ ap (λ (b : Bool). length (filter is_plain (take number functions)) + one_if b) (sym plain) in
    elim c.if-is_plain_shape.branch [
      | then-is_plain_shape w ↦ let one = ap one_if w.if-is_plain_shape.true in omega (arith, w.count-is, c.loop-number.invariant, next, one)
      | else-is_plain_shape w ↦ let none = ap one_if w.if-is_plain_shape.false in omega (arith, w.count-is, c.loop-number.invariant, next, none)
    ]
