use Rattle.std.proofs.Common.{ap, map, subst, refl, List}
use Rattle.std.proofs.lemmas.List.Sorted.{All-permutation}
use Rattle.sf_functions.proofs.ByStart.{seen_in_order}
use Rattle.frame_functions.specs.declared.description.DescriptionItem.{DescriptionItem}
use Rattle.frame_functions.specs.Functions.{Function}
use Rattle.frame_functions.specs.Descriptions.{AreByStart, IsItemIn, DescriptionsView, commons_of, function_start, item_function}
use Rattle.frame_functions.proofs.descriptions.Descriptions.sort.Goals as goal

pub invariant_of-self : goal.invariant_of-self
invariant_of-self c = All-permutation (IsItemIn (commons_of c.self.inside.common.items)) _ _ c.sort_by_start.ensures.moved c.self.invariant

pub invariant_of-self-2 : goal.invariant_of-self-2
invariant_of-self-2 c = All-permutation (IsItemIn (commons_of c.self.inside.common.items)) _ _ c.sort_by_start.ensures.moved c.self.invariant

pub returns : goal.returns
returns c =
    let commons = commons_of c.self.inside.common.items in
    let new = c.sort_by_start.new.functions.items in
    let sorted = seen_in_order (item_function commons) (λ (i : DescriptionItem). i.start) function_start c.self.inside.items.items new (λ k d lt. refl) c.in_ok-sort_by_start.ensures.order in
    subst (λ (fs : List Function). AreByStart fs (map (item_function commons) new)) (ap (λ (v : DescriptionsView). v.functions) c.self.view_is) sorted
