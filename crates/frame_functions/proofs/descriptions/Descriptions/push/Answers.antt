use Rattle.std.proofs.Common.{◌∷◌, ◌++◌, [], All, map, ap, subst, sym, ◌∙◌}
use Rattle.std.proofs.lemmas.List.{map-append}
use Rattle.std.proofs.lemmas.List.Elements.{All-push}
use Rattle.frame_functions.specs.Descriptions.{IsItemIn, DescriptionsView, commons_of, item_function}
use Rattle.frame_functions.proofs.descriptions.Descriptions.push.Goals as goal

pub invariant_of-self-2 : goal.invariant_of-self-2
invariant_of-self-2 c =
    let commons = commons_of c.self.inside.common.items in
    let item : IsItemIn commons c.args.item = subst (λ (v : DescriptionsView). IsItemIn v.common c.args.item) (sym c.self.view_is) c.requires in
    subst (All (IsItemIn commons)) (sym c.in_ok-push.ensures.items) (All-push (IsItemIn commons) c.self.inside.items.items c.args.item c.self.invariant item)

pub returns-clause-functions : goal.returns-clause-functions
returns-clause-functions c =
    let commons = commons_of c.self.inside.common.items in
    ap (map (item_function commons)) c.in_ok-push.ensures.items ∙ map-append (item_function commons) c.self.inside.items.items (c.args.item ∷ [])
    ∙ ap (λ (v : DescriptionsView). v.functions ++ item_function v.common c.args.item ∷ []) c.self.view_is
