use Rattle.std.proofs.Common.{rules}
use Rattle.std.proofs.lemmas.List.Sorted.{IsNonDecreasingBy-from_sort_by}
use Rattle.sf_modules.specs.Stretch.{start_point}
use Rattle.sf_modules.proofs.stretch.put_in_order.Goals as goal

pub returns-clause-rise : goal.returns-clause-rise
returns-clause-rise c = IsNonDecreasingBy-from_sort_by start_point _ c.sort_unstable_by.ensures.sorted (λ a r f q. search rules)
