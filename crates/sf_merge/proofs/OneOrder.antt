-- There is one order of the functions of sections, and so merging has one result.
use Rattle.std.proofs.Common.{◌≡◌, ℕ, List, Option, Some, None, Result, sym, ap, ◌∙◌}
use Rattle.sf_model.specs.declared.function.Func.{Func}
use Rattle.sf_model.specs.Table.{Table}
use Rattle.sf_functions.proofs.ByStart.{one_order}
use Rattle.sf_merge.specs.declared.fault.MergeFault.{MergeFault}
use Rattle.sf_merge.specs.declared.located.Located.{Located}
use Rattle.sf_merge.specs.Located.{located_start, sized_in_all}
use Rattle.sf_merge.specs.Merging.{ordered_fault, sections_fault, unless_fault, merged_functions, Merges, MergesUnless}

result_from : (tables : List Table) (at : ℕ) (fault : Option MergeFault) (r r' : Result (List Func) MergeFault) → MergesUnless fault tables at r → MergesUnless fault tables at r' → r ≡ r'
result_from tables at (Some fault) r r' e e' = e ∙ sym e'
result_from tables at None r r' (es, order, e) (fs, order', e') =
    e ∙ ap (λ (ls : List Located). unless_fault (ordered_fault at ls) (merged_functions ls)) (one_order located_start (sized_in_all tables) es fs order order') ∙ sym e'

pub one_result : (tables : List Table) (at : ℕ) (r r' : Result (List Func) MergeFault) → Merges tables at r → Merges tables at r' → r ≡ r'
one_result tables at r r' h h' = result_from tables at (sections_fault tables) r r' h h'
