-- Slimming a section has one result, as its functions have one order.
use Rattle.std.proofs.Common.{◌≡◌, ℕ, List, Result, sym, ap, ◌∙◌}
use Rattle.sf_model.specs.declared.function.Func.{Func}
use Rattle.sf_model.specs.Table.{Table}
use Rattle.sf_functions.proofs.ByStart.{one_order}
use Rattle.sf_merge.specs.declared.located.Located.{Located}
use Rattle.sf_merge.specs.Located.{located_start}
use Rattle.sf_slim.specs.declared.fault.SlimFault.{SlimFault}
use Rattle.sf_slim.specs.Slimming.{or_later, sized_in, slim_overlap_fault, slim_reach_fault, slimmed, unless_fault, Slims}

pub one_result : (bytes : List ℕ) (table : Table) (at : ℕ) (one other : Result (List Func) SlimFault) → Slims bytes table at one → Slims bytes table at other → one ≡ other
one_result bytes table at one other (es, order, e) (fs, order', e') =
    let ordered : es ≡ fs = one_order located_start (sized_in table) es fs order order' in
    e ∙ ap (λ (ls : List Located). unless_fault (or_later (slim_overlap_fault bytes ls) (slim_reach_fault at (slimmed ls))) (slimmed ls)) ordered ∙ sym e'
