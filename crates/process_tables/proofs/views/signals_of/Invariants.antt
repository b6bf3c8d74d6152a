use Rattle.std.proofs.Common.{◌≡◌, map, take}
use Rattle.process_tables.specs.declared.table.MappedTable.{MappedTable}
use Rattle.process_tables.proofs.views.signals_of.Given as goal

-- the signal frames of the tables so far
abbrev pub invariant-loop-made : goal.invariant-loop-made
invariant-loop-made l = map (λ s. s.now) l.signals.items ≡ map (λ (t : MappedTable). t.table.signals.items) (take l.made-index l.tables)
