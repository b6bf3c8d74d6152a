use Rattle.std.proofs.Common.{arith, ap, sym, ◌∙◌, List}
use Rattle.frame_functions.specs.Functions.{Function}
use Rattle.frame_functions.specs.Descriptions.{Common, DescriptionsView, HasInitial, commons_of}
use Rattle.frame_functions.proofs.CommonParts.{initial_there, within_items}
use Rattle.frame_functions.proofs.descriptions.Descriptions.common_number.Goals as goal

pub index-requires : goal.index-requires
index-requires c =
    let low = within_items (commons_of c.self.inside.common.items) c.self.inside.items.items _ c.args.number (ap (λ (v : DescriptionsView). v.functions) c.self.view_is) c.requires in
    omega (arith, low, c.self.inside.items.ok.0)

pub returns : goal.returns
returns c = λ d.
    initial_there (commons_of c.self.inside.common.items) _ c.self.inside.items.items _ c.args.number c.index.result.now d (ap (λ (v : DescriptionsView). v.common) c.self.view_is)
    (ap (λ (v : DescriptionsView). v.functions) c.self.view_is) c.requires c.index.ensures
