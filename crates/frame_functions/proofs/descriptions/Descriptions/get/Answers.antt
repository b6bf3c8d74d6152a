use Rattle.std.proofs.Common.{arith, ap, subst, sym, ◌∙◌}
use Rattle.std.proofs.lemmas.List.{length-map}
use Rattle.frame_functions.specs.Descriptions.{Common, CanBeRun, DescriptionsView, common_view, commons_of, function_by_item}
use Rattle.frame_functions.proofs.CommonParts.{common_there, held_there, item_there, within_items}
use Rattle.frame_functions.proofs.descriptions.Descriptions.get.Goals as goal

pub index-item-requires : goal.index-item-requires
index-item-requires c =
    let low = within_items (commons_of c.self.inside.common.items) c.self.inside.items.items _ c.args.number (ap (λ (v : DescriptionsView). v.functions) c.self.view_is) c.requires in
    omega (arith, low, c.self.inside.items.ok.0)

pub index-common-requires : goal.index-common-requires
index-common-requires c =
    let low = (held_there (commons_of c.self.inside.common.items) c.self.inside.items.items _ c.args.number c.index-item.result.now (ap (λ (v : DescriptionsView). v.functions) c.self.view_is) c.requires c.self.invariant c.index-item.ensures).0 in
    let long = length-map c.self.inside.common.items common_view in
    omega (arith, low, c.self.inside.common.ok.0, long)

pub put_together-requires : goal.put_together-requires
put_together-requires c =
    let there = (held_there (commons_of c.self.inside.common.items) c.self.inside.items.items _ c.args.number c.index-item.result.now (ap (λ (v : DescriptionsView). v.functions) c.self.view_is) c.requires c.self.invariant c.index-item.ensures) in
    let shared = (common_there c.self.inside.common.items c.index-item.result.now.common c.index-common.result.now (held_there (commons_of c.self.inside.common.items) c.self.inside.items.items _ c.args.number c.index-item.result.now (ap (λ (v : DescriptionsView). v.functions) c.self.view_is) c.requires c.self.invariant c.index-item.ensures).0 c.index-common.ensures) in
    subst (λ (x : Common). CanBeRun (function_by_item x c.index-item.result.now)) shared there.1

pub returns : goal.returns
returns c = λ d.
    let shared = (common_there c.self.inside.common.items c.index-item.result.now.common c.index-common.result.now (held_there (commons_of c.self.inside.common.items) c.self.inside.items.items _ c.args.number c.index-item.result.now (ap (λ (v : DescriptionsView). v.functions) c.self.view_is) c.requires c.self.invariant c.index-item.ensures).0 c.index-common.ensures) in
    c.put_together.ensures ∙ sym (ap (λ (x : Common). function_by_item x c.index-item.result.now) shared)
    ∙ item_there (commons_of c.self.inside.common.items) c.self.inside.items.items _ c.args.number c.index-item.result.now d (ap (λ (v : DescriptionsView). v.functions) c.self.view_is) c.requires c.index-item.ensures
