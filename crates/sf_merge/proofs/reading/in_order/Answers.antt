use Rattle.std.proofs.lemmas.List.Sorted.{All-permutation}
use Rattle.sf_merge.specs.InSection.{IsEntry}
use Rattle.sf_merge.proofs.InSection.{in_order}
use Rattle.sf_merge.proofs.reading.in_order.Goals as goal

pub invariant_of-result : goal.invariant_of-result
invariant_of-result c = All-permutation (IsEntry c.args.view.now) _ _ c.sort_by_start.ensures.moved c.in_ok-entries.ensures.each

pub returns-clause-order : goal.returns-clause-order
returns-clause-order c =
    in_order c.args.view.now c.in_ok-entries.entries.items c.sort_by_start.new.functions.items _ c.in_ok-entries.ensures.each c.in_ok-entries.ensures.all c.in_ok-sort_by_start.ensures.order
