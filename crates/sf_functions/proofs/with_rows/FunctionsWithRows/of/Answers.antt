use Rattle.std.proofs.Common.{◌≡◌, rules, subst, sym, ap, ◌∙◌}
use Rattle.std.specs.List.{filter, filter_map}
use Rattle.std.proofs.lemmas.Fn.{filter_same}
use Rattle.std.proofs.lemmas.List.Elements.{filter_passes}
use Rattle.sf_functions.specs.WithRows.{HaveRows, has_rows}
use Rattle.sf_functions.proofs.StoredAlone.{stored_alone}
use Rattle.sf_functions.proofs.with_rows.FunctionsWithRows.of.Goals as goal

left : (g : _) (c : goal.After-retain g) → c.retain.new.self.items ≡ filter (has_rows g.F.MayHaveRows.stored_at) c.args.heads.items
left g c = filter_same _ (has_rows g.F.MayHaveRows.stored_at) _ (λ x b f' k. search rules) _ _ c.retain.ensures.filtered

pub invariant_of-result : goal.invariant_of-result
invariant_of-result g c =
    subst (HaveRows g.F.MayHaveRows.stored_at) (sym (left g c)) (filter_passes (has_rows g.F.MayHaveRows.stored_at) c.args.heads.items)

pub returns : goal.returns
returns g c = ap (λ fs. filter_map g.F.MayHaveRows.stored_at fs) (left g c) ∙ stored_alone g.F.MayHaveRows.stored_at c.args.heads.items
