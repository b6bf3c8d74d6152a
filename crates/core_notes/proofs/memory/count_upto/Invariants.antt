use Rattle.std.proofs.Common.{◌-◌}
use Rattle.elf_read.specs.Views.{file}
use Rattle.core_notes.specs.Segment.{segments}
use Rattle.core_notes.proofs.Rising.{Halving}
use Rattle.core_notes.proofs.memory.count_upto.Given as goal

abbrev pub invariant-loop-low : goal.invariant-loop-low
invariant-loop-low l = Halving (segments (file l.elf)) l.address l.low l.high

abbrev pub decreases-loop-low : goal.decreases-loop-low
decreases-loop-low l = l.high - l.low
