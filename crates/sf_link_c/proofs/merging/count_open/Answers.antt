use Rattle.std.proofs.Common.{arith, ◌∙◌, ap, length}
use Rattle.sf_link_c.proofs.Tables.{all_on, counted_on}
use Rattle.sf_link_c.proofs.merging.count_open.Goals as goal

pub loop-section-preserved : goal.loop-section-preserved
loop-section-preserved c = (
  counted_on c.args.sections.now c.loop-section.section-index c.section-item.result c.section-item.result c.loop-section.count c.open_number-count.result
      c.loop-section-test.true c.section-item.is c.open_number-count.ensures.number c.loop-section.invariant.0,
  omega (c.loop-section.invariant.1, c.open_number-count.ensures.one, arith),
)

pub returns : goal.returns
returns c = c.loop-section.invariant.0 ∙ ap length (all_on c.args.sections.now c.loop-section.section-index c.loop-section-test.false)
