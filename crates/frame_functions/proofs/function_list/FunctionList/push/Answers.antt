use Rattle.std.proofs.Common.{◌++◌, ◌∷◌, [], List, ap, subst, sym, ◌∙◌}
use Rattle.frame_functions.specs.declared.read_function.ReadFunction.{ReadFunction}
use Rattle.frame_functions.specs.ListedFunctions.{HaveRows, all_read_in, read_in}
use Rattle.frame_functions.proofs.ListedFunctions.{entries_more, entries_still, have_more, have_still}
use Rattle.frame_functions.proofs.function_list.FunctionList.push.Goals as goal

pub invariant_of-self-2 : goal.invariant_of-self-2
invariant_of-self-2 c =
    let old = c.self.inside.rows in
    let new = c.store.new.rows in
    let heads = c.self.inside.heads.items in
    subst (HaveRows new) (sym c.in_ok-push.ensures.items)
    (have_more new heads c.in_ok-head.head (have_still old new heads c.store.ensures.keeps c.self.invariant) c.in_ok-head.ensures.stored.0)

pub returns : goal.returns
returns c =
    let new = c.store.new.rows in
    let heads = c.self.inside.heads.items in
    ap (all_read_in new) c.in_ok-push.ensures.items ∙ entries_more new heads c.in_ok-head.head
    ∙ ap (λ (es : List ReadFunction). es ++ read_in new c.in_ok-head.head ∷ []) (entries_still c.self.inside.rows new heads c.store.ensures.keeps c.self.invariant ∙ c.self.view_is)
    ∙ ap (λ (e : ReadFunction). c.args.self.now ++ e ∷ []) c.in_ok-head.ensures.stored.1
