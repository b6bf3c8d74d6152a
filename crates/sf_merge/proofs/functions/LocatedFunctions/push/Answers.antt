use Rattle.std.proofs.Common.{◌++◌, ◌∷◌, [], List, ap, ◌∙◌}
use Rattle.sf_model.specs.declared.function.Func.{Func}
use Rattle.sf_merge.specs.declared.head.LocatedFunction.{LocatedFunction}
use Rattle.sf_merge.specs.declared.located.Located.{Located}
use Rattle.sf_merge.specs.Heads.{all_in, located_in}
use Rattle.sf_merge.proofs.Heads.{all_more, all_still}
use Rattle.sf_merge.proofs.functions.LocatedFunctions.push.Goals as goal

pub returns : goal.returns
returns c =
    let new = c.store.new.rows in
    let heads = c.self.inside.heads.items in
    let head : LocatedFunction = record { head = c.in_ok-head.head; item = c.args.item; number = c.args.number } in
    ap (all_in new) c.in_ok-push.ensures.items ∙ all_more new heads head
    ∙ ap (λ (ls : List Located). ls ++ located_in new head ∷ []) (all_still c.self.inside.rows new heads c.store.ensures.keeps c.self.invariant ∙ c.self.view_is)
    ∙ ap (λ (f : Func). c.args.self.now ++ record { func = f; item = c.args.item; number = c.args.number } ∷ []) c.in_ok-head.ensures.stored.1
