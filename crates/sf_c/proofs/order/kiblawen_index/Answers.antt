use Rattle.sf_c.proofs.Apart.{apart_from_index, disjoint_from_apart}
use Rattle.sf_c.proofs.order.kiblawen_index.Goals as goal

pub returns-clause-apart : goal.returns-clause-apart
returns-clause-apart c = λ many. (
  λ apart. apart_from_index c.args.modules.now c.put_in_order.new.order (c.put_in_order.ensures.order, c.are_apart.ensures.0 apart),
  λ apart. c.are_apart.ensures.1 (disjoint_from_apart c.args.modules.now c.put_in_order.new.order c.put_in_order.ensures.order c.put_in_order.ensures.differ apart),
)
