use Rattle.std.proofs.Common.{ap, sym, ◌∙◌}
use Rattle.sf_merge.specs.Heads.{all_in}
use Rattle.sf_merge.proofs.functions.LocatedFunctions.heads.Goals as goal

pub returns : goal.returns
returns c = record {
  rows = c.self.inside.rows;
  are = sym c.self.view_is ∙ ap (all_in c.self.inside.rows) (sym c.as_slice.ensures.value);
}
