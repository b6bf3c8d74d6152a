use Rattle.std.proofs.Common.{arith, ap}
use Rattle.frame_functions.specs.Functions.{Function}
use Rattle.frame_functions.specs.Descriptions.{DescriptionsView, commons_of}
use Rattle.frame_functions.proofs.CommonParts.{item_there, within_items}
use Rattle.frame_functions.proofs.descriptions.Descriptions.start.Goals as goal

pub index-requires : goal.index-requires
index-requires c =
    let low = within_items (commons_of c.self.inside.common.items) c.self.inside.items.items _ c.args.number (ap (λ (v : DescriptionsView). v.functions) c.self.view_is) c.requires in
    omega (arith, low, c.self.inside.items.ok.0)

pub returns : goal.returns
returns c = λ d.
    ap (λ (f : Function). f.start)
    (item_there (commons_of c.self.inside.common.items) c.self.inside.items.items _ c.args.number c.index.result.now d (ap (λ (v : DescriptionsView). v.functions) c.self.view_is) c.requires c.index.ensures)
