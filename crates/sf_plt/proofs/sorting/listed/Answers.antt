use Rattle.std.proofs.Common.{◌≡◌, ◌<◌, ◌+◌, ◌++◌, [], ◌∷◌, List, ap, arith, length, sym, take, ◌∙◌}
use Rattle.std.proofs.lemmas.List.{take_all, take_more}
use Rattle.sf_write.specs.declared.stored.StoredFunction.{StoredFunction}
use Rattle.sf_plt.proofs.sorting.listed.Goals as goal

pub loop-number-preserved : goal.loop-number-preserved
loop-number-preserved c =
    let kept = c.args.kept in
    let k = c.loop-number.number in
    let f = c.function.result.now in
    let low : k < length kept = omega (arith, c.loop-number-test.true, c.len-number-end.ensures) in
    let more : take (k + 1) kept ≡ take k kept ++ f ∷ [] = take_more kept k f low ∙ ap (λ (x : StoredFunction). take k kept ++ x ∷ []) (sym (c.function.ensures f)) in
    c.in_ok-push.ensures.items ∙ ap (λ (fs : List StoredFunction). fs ++ f ∷ []) c.loop-number.invariant ∙ sym more

pub returns : goal.returns
returns c = c.loop-number.invariant ∙ take_all c.loop-number.number _ (omega (arith, c.loop-number-test.false, c.len-number-end.ensures))
