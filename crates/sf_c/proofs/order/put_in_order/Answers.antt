use Rattle.std.proofs.Common.{◌∙◌, arith, rules}
use Rattle.std.proofs.lemmas.List.Sorted.{IsNonDecreasingBy-from_sort_by_key}
use Rattle.sf_c.specs.Order.{order_key}
use Rattle.sf_c.proofs.Ordered.{differ_put, put_by_start}
use Rattle.sf_c.proofs.order.put_in_order.Goals as goal

pub returns-clause-order : goal.returns-clause-order
returns-clause-order c =
    let modules = c.args.modules.now in
    put_by_start modules c.loop-index.order c.sort_unstable_by_key.new.self (c.loop-index.invariant.as_many ∙ c.requires)
    (λ k d lt. c.loop-index.invariant.itself k d (omega (lt, c.loop-index-test.false, c.loop-index.invariant.as_many, arith)))
    c.sort_unstable_by_key.ensures.permutation c.sort_unstable_by_key.ensures.len
    (IsNonDecreasingBy-from_sort_by_key (order_key modules) c.sort_unstable_by_key.new.self c.sort_unstable_by_key.ensures.sorted (λ a r f q. search rules))

pub returns-clause-differ : goal.returns-clause-differ
returns-clause-differ c =
    differ_put c.loop-index.order c.sort_unstable_by_key.new.self
    (λ k d lt. c.loop-index.invariant.itself k d (omega (lt, c.loop-index-test.false, c.loop-index.invariant.as_many, arith)))
    c.sort_unstable_by_key.ensures.permutation
