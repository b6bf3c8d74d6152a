use Rattle.std.proofs.Common.{◌++◌, ◌∷◌, [], List, sym, ap, ◌∙◌}
use Rattle.std.proofs.lemmas.List.{take_all}
use Rattle.sf_model.specs.declared.omission.Omitted.{Omitted}
use Rattle.frame_functions.specs.ReadFunction.{omitted_of}
use Rattle.frame_functions.specs.ListedFunctions.{left_of}
use Rattle.frame_functions.proofs.ListedFunctions.{left_are, left_more, left_stay}
use Rattle.frame_functions.proofs.function_list.FunctionList.omitted.Goals as goal
use Rattle.frame_functions.proofs.function_list.FunctionList.omitted.Goals.{in-LeftOut+in_ok-push, in_default}

pub loop-head-preserved : goal.loop-head-preserved
loop-head-preserved c =
    let heads = c.as_slice-head-items.result.now in
    let k = c.loop-head.head-index in
    elim c.match-head.branch [
      | in-LeftOut+in_ok-push w ↦
          ap (λ v. v.items) w.omitted-is ∙ w.in_ok-push.ensures.items ∙ ap (λ (os : List Omitted). os ++ w.in-LeftOut.function ∷ []) c.loop-head.invariant
          ∙ sym (left_more heads k _ w.in-LeftOut.function c.loop-head-test.true w.in-LeftOut.is)
      | in_default w ↦
          ap (λ v. v.items) w.omitted-is ∙ c.loop-head.invariant ∙ sym (left_stay heads k _ w.in_default.field-0 w.in_default.field-1 c.loop-head-test.true w.in_default.is)
    ]

pub returns : goal.returns
returns c =
    c.loop-head.invariant
    ∙ ap left_of (take_all c.loop-head.head-index _ c.loop-head-test.false ∙ c.as_slice-head-items.ensures.value)
    ∙ left_are c.self.inside.rows c.self.inside.heads.items ∙ ap omitted_of c.self.view_is
