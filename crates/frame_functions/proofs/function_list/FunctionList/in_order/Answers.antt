use Rattle.std.proofs.Common.{List, subst}
use Rattle.std.proofs.lemmas.List.Sorted.{All-permutation}
use Rattle.frame_functions.specs.declared.read_function.ReadFunction.{ReadFunction}
use Rattle.frame_functions.specs.ListedFunctions.{HasRows, all_read_in}
use Rattle.frame_functions.specs.Order.{InOrder}
use Rattle.frame_functions.proofs.ListedFunctions.{heads_in_order}
use Rattle.frame_functions.proofs.function_list.FunctionList.in_order.Goals as goal

pub invariant_of-self : goal.invariant_of-self
invariant_of-self c = All-permutation (HasRows c.self.inside.rows) _ _ c.sort_by_start.ensures.moved c.self.invariant

pub returns : goal.returns
returns c =
    subst (λ (es : List ReadFunction). InOrder es (all_read_in c.self.inside.rows c.sort_by_start.new.functions.items)) c.self.view_is
    (heads_in_order c.self.inside.rows c.self.inside.heads.items c.sort_by_start.new.functions.items c.in_ok-sort_by_start.ensures.order)
