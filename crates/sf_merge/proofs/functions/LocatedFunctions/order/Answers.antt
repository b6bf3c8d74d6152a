use Rattle.std.proofs.Common.{List, subst}
use Rattle.std.proofs.lemmas.List.Sorted.{All-permutation}
use Rattle.sf_functions.specs.Order.{IsInOrder}
use Rattle.sf_merge.specs.declared.located.Located.{Located}
use Rattle.sf_merge.specs.Heads.{all_in}
use Rattle.sf_merge.specs.Located.{located_start}
use Rattle.sf_merge.proofs.Heads.{Has, in_order}
use Rattle.sf_merge.proofs.functions.LocatedFunctions.order.Goals as goal

pub invariant_of-self : goal.invariant_of-self
invariant_of-self c = All-permutation (Has c.self.inside.rows) _ _ c.sort_by_start.ensures.moved c.self.invariant

pub invariant_of-self-2 : goal.invariant_of-self-2
invariant_of-self-2 c = All-permutation (Has c.self.inside.rows) _ _ c.sort_by_start.ensures.moved c.self.invariant

pub returns : goal.returns
returns c =
    subst (λ (ls : List Located). IsInOrder located_start ls (all_in c.self.inside.rows c.sort_by_start.new.functions.items)) c.self.view_is
    (in_order c.self.inside.rows c.self.inside.heads.items c.sort_by_start.new.functions.items c.in_ok-sort_by_start.ensures.order)
