use Rattle.std.proofs.Common.{◌≡◌, ◌<◌, ap, get_or, length, refl, sym, ◌∙◌, arith}
use Rattle.frame_functions.specs.Functions.{holds_address, Function}
use Rattle.frame_functions.specs.Descriptions.{described_function}
use Rattle.sf_asm.proofs.RowAt.{found_here, found_later, has_it, some_of}
use Rattle.sf_asm.proofs.list_forms.omitted_at.Goals as goal

pub returns-then-has_address : goal.returns-then-has_address
returns-then-has_address c =
    let fs = c.args.descriptions.now.functions in
    let k = c.loop-number.number in
    let lt : k < length fs = omega (arith, c.loop-number-test.true, c.len-number-end.ensures) in
    let f = described_function c.get.result in
    let is : get_or fs k f ≡ f = sym (c.get.ensures f) in
    let has = has_it f c.start.result c.size.result c.args.pc c.has_address.result (c.start.ensures f ∙ ap (λ (g : Function). g.start) is) (c.size.ensures f ∙ ap (λ (g : Function). g.size) is) c.has_address.ensures in
    sym (c.loop-number.invariant ∙ found_here (holds_address c.args.pc) fs k f f lt is (has ∙ c.if-has_address.true))

pub loop-number-preserved : goal.loop-number-preserved
loop-number-preserved c =
    let fs = c.args.descriptions.now.functions in
    let k = c.loop-number.number in
    let lt : k < length fs = omega (arith, c.loop-number-test.true, c.len-number-end.ensures) in
    let d = some_of fs k lt in
    let has = has_it (get_or fs k d) c.start.result c.size.result c.args.pc c.has_address.result (c.start.ensures d) (c.size.ensures d) c.has_address.ensures in
    c.loop-number.invariant ∙ found_later (holds_address c.args.pc) fs k d (get_or fs k d) lt refl (has ∙ c.if-has_address.false)
