use Rattle.std.proofs.Common.{take}
use Rattle.module_tables.specs.Rules.{AreKept}
use Rattle.module_tables.specs.Signals.{AreSignals}
use Rattle.module_tables.proofs.signals.signals_of.Given as goal

-- the signal frames of the functions so far, and rules that are kept
abbrev pub invariant-loop-number : goal.invariant-loop-number
invariant-loop-number l = record {
  listed : AreSignals (take l.number l.descriptions.functions) l.signals.items;
  kept : AreKept l.descriptions.common l.kept;
}
