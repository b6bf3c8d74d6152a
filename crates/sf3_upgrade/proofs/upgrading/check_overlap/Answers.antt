use Rattle.std.proofs.Common.{ap, ◌∙◌}
use Rattle.sf_model.specs.Firsts.{unless}
use Rattle.sf_decode.specs.View.{section_bytes}
use Rattle.sf3_upgrade.proofs.Overlaps.{overlaps_are}
use Rattle.sf3_upgrade.proofs.upgrading.check_overlap.Goals as goal

pub returns : goal.returns
returns c = c.check_heads.ensures ∙ ap unless (overlaps_are (section_bytes c.args.view.now) c.heads.result.now c.args.ordered.now c.heads.ensures)
