use Rattle.std.proofs.Common.{rules}
use Rattle.std.proofs.lemmas.List.Sorted.{answers_always, IsNonDecreasingBy-from_sort_by_key}
use Rattle.sf_functions.proofs.order.sort_by_start.Goals as goal

pub returns-clause-order : goal.returns-clause-order
returns-clause-order g c = record {
  moved = c.sort_by_key.ensures.permutation;
  rising = IsNonDecreasingBy-from_sort_by_key g.F.HasStart.first_address _ c.in_ok-sort_by_key.ensures.sorted (λ a r q k. search rules);
  stable = c.sort_by_key.ensures.stable g.F.HasStart.first_address (answers_always _ _ _ (λ f a r g h. search rules));
}
