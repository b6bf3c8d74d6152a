use Rattle.std.proofs.Common.{All, ap, subst, sym, ◌∙◌}
use Rattle.sf_merge.specs.InSection.{IsEntry, all_at}
use Rattle.sf_merge.proofs.in_section.SectionFunctions.entries.Goals as goal

pub returns : goal.returns
returns c = record {
  view = c.self.inside.view;
  are = sym c.self.view_is ∙ ap (all_at c.self.inside.view) (sym c.as_slice.ensures.value);
  each = subst (All (IsEntry c.self.inside.view)) (sym c.as_slice.ensures.value) c.self.invariant;
}
