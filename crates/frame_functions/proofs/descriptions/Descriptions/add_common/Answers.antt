use Rattle.std.proofs.Common.{◌∷◌, ◌++◌, [], List, All, map, ap, subst, sym, ◌∙◌}
use Rattle.frame_functions.specs.declared.description.CommonPart.{CommonPart}
use Rattle.frame_functions.specs.Descriptions.{IsItemIn, DescriptionsView, common_view, commons_of, item_function}
use Rattle.frame_functions.proofs.CommonParts.{commons_more, functions_still, items_still}
use Rattle.frame_functions.proofs.descriptions.Descriptions.add_common.Goals as goal

pub invariant_of-self-2 : goal.invariant_of-self-2
invariant_of-self-2 c =
    subst (λ (ps : List CommonPart). All (IsItemIn (commons_of ps)) c.self.inside.items.items) (sym c.in_ok-push.ensures.items)
    (items_still c.self.inside.common.items c.args.common c.self.inside.items.items c.self.invariant)

pub returns-clause-common : goal.returns-clause-common
returns-clause-common c =
    ap commons_of c.in_ok-push.ensures.items ∙ commons_more c.self.inside.common.items c.args.common
    ∙ ap (λ (v : DescriptionsView). v.common ++ common_view c.args.common ∷ []) c.self.view_is

pub returns-clause-functions : goal.returns-clause-functions
returns-clause-functions c =
    ap (λ (ps : List CommonPart). map (item_function (commons_of ps)) c.self.inside.items.items) c.in_ok-push.ensures.items
    ∙ functions_still c.self.inside.common.items c.args.common c.self.inside.items.items c.self.invariant ∙ ap (λ (v : DescriptionsView). v.functions) c.self.view_is
