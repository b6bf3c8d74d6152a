use Rattle.frame_functions.specs.Descriptions.{described_function}
use Rattle.frame_functions.proofs.RangesOfInstructions.{are_made}
use Rattle.frame_functions.proofs.contents.ranges_of.Goals as goal

pub returns-in-Ok-clause-said : goal.returns-in-Ok-clause-said
returns-in-Ok-clause-said c =
    (are_made (described_function c.args.description.now) c.in-Ok.ranges.items _ c.requires c.begin.ensures.small c.begin.ensures.begun c.in-Ok.ensures.exact).said

pub returns-in-Ok-clause-fits : goal.returns-in-Ok-clause-fits
returns-in-Ok-clause-fits c =
    (are_made (described_function c.args.description.now) c.in-Ok.ranges.items _ c.requires c.begin.ensures.small c.begin.ensures.begun c.in-Ok.ensures.exact).fit
