use Rattle.std.proofs.Common.{map, ap, ◌∙◌, arith}
use Rattle.std.proofs.lemmas.List.{take_all}
use Rattle.process_tables.specs.declared.table.MappedTable.{MappedTable}
use Rattle.process_tables.proofs.Lookups.{signals_are}
use Rattle.process_tables.proofs.views.signals_of.Goals as goal

pub returns : goal.returns
returns c modules are =
    c.loop-made.invariant ∙ ap (map (λ (t : MappedTable). t.table.signals.items)) (take_all c.loop-made.made-index c.args.tables.now (omega (c.loop-made-test.false, arith)))
    ∙ signals_are modules c.args.tables.now are
