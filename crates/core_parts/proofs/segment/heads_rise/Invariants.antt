use Rattle.std.proofs.Common.{◌≡◌, drop}
use Rattle.core_parts.specs.Heads.{heads_rise}
use Rattle.core_parts.proofs.segment.heads_rise.Given as goal

abbrev pub invariant-loop-head : goal.invariant-loop-head
invariant-loop-head l = heads_rise l.end (drop l.head-index l.heads) ≡ heads_rise 0 l.heads
