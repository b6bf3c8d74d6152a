use Rattle.std.proofs.Common.{◌∙◌}
use Rattle.sf_link_c.proofs.Tables.{all_on, viewed_on}
use Rattle.sf_link_c.proofs.merging.views_of.Goals as goal

pub loop-section-preserved : goal.loop-section-preserved
loop-section-preserved c =
    viewed_on c.args.sections.now c.loop-section.section-index c.section-item.result c.section-item.result c.loop-section.views.items c.push_view.new.views.items
    c.loop-section-test.true c.section-item.is c.in_ok-push_view.ensures c.loop-section.invariant

pub returns : goal.returns
returns c = c.loop-section.invariant ∙ all_on c.args.sections.now c.loop-section.section-index c.loop-section-test.false
