use Rattle.std.proofs.Common.{ap, ◌∙◌}
use Rattle.sf_merge.specs.Merging.{unless}
use Rattle.sf_merge.proofs.Heads.{overlaps_are}
use Rattle.sf_merge.proofs.checking.check_overlap.Goals as goal

pub returns : goal.returns
returns c = c.check_heads.ensures ∙ ap unless (overlaps_are c.heads.result.now c.args.ordered.now c.heads.ensures)
