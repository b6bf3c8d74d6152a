use Rattle.std.proofs.Common.{◌≡◌, ◌<◌, ◌+◌, ◌++◌, [], ◌∷◌, List, ap, arith, length, map, subst, sym, take, ◌∙◌}
use Rattle.std.proofs.lemmas.List.{map-append, take_all, take_more}
use Rattle.sf_model.specs.declared.function.Func.{Func}
use Rattle.sf_write.specs.declared.stored.StoredFunction.{StoredFunction}
use Rattle.sf_write.specs.Stored.{IsStored, stored_in}
use Rattle.sf_asm.proofs.list_forms.functions.Goals as goal

pub function-requires-in-loop-number : goal.function-requires-in-loop-number
function-requires-in-loop-number c =
    let low : c.loop-number.number < length c.args.kept.now = omega (arith, c.loop-number-test.true, c.len-number-end.ensures) in
    subst (IsStored c.args.rows.now) (sym (c.function.ensures c.function.result.now)) (c.requires c.loop-number.number c.function.result.now low)

pub loop-number-preserved : goal.loop-number-preserved
loop-number-preserved c =
    let kept = c.args.kept.now in
    let k = c.loop-number.number in
    let f = c.function.result.now in
    let low : k < length kept = omega (arith, c.loop-number-test.true, c.len-number-end.ensures) in
    let more : take (k + 1) kept ≡ take k kept ++ f ∷ [] = take_more kept k f low ∙ ap (λ (x : StoredFunction). take k kept ++ x ∷ []) (sym (c.function.ensures f)) in
    let pushed : c.in_ok-function.field-0 ≡ stored_in c.args.rows.now f = c.in_ok-function.ensures in
    c.in_ok-push.ensures.items ∙ ap (λ (x : Func). c.loop-number.functions.items ++ x ∷ []) pushed ∙ ap (λ (fs : List Func). fs ++ stored_in c.args.rows.now f ∷ []) c.loop-number.invariant
    ∙ sym (map-append (stored_in c.args.rows.now) (take k kept) (f ∷ [])) ∙ ap (map (stored_in c.args.rows.now)) (sym more)

pub returns : goal.returns
returns c =
    c.loop-number.invariant ∙ ap (map (stored_in c.args.rows.now)) (take_all c.loop-number.number _ (omega (arith, c.loop-number-test.false, c.len-number-end.ensures)))
