use Rattle.std.proofs.Common.{map, refl, ap, ◌∙◌, arith}
use Rattle.std.proofs.lemmas.List.{take_all}
use Rattle.process_tables.specs.Views.{section_view}
use Rattle.process_tables.proofs.Lookups.{as_many, module_there, one_more, shown_with}
use Rattle.process_tables.proofs.views.sections_of.Goals as goal

pub view_of-requires : goal.view_of-requires
view_of-requires c = module_there c.requires.0 c.args.tables.now c.loop-made.made-index c.made-item.result c.requires.1 c.loop-made-test.true c.made-item.is

pub loop-made-preserved : goal.loop-made-preserved
loop-made-preserved c modules are =
    one_more modules c.args.tables.now c.loop-made.made-index c.made-item.result c.loop-made.sections.items c.push.new.self.items _ are c.loop-made-test.true c.made-item.is c.in_ok-push.ensures.items
    (λ m is. shown_with m c.made-item.result _ is refl refl (c.view_of.ensures m is)) (c.loop-made.invariant modules are)

pub returns : goal.returns
returns c modules are =
    let count = as_many modules c.args.tables.now are in
    c.loop-made.invariant modules are ∙ ap (map section_view) (take_all c.loop-made.made-index modules (omega (c.loop-made-test.false, count, arith)))
