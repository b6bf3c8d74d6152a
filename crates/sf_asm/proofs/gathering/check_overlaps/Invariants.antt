use Rattle.std.proofs.Common.{◌≡◌, drop}
use Rattle.std.specs.Option.{option_map}
use Rattle.frame_functions.specs.ReadFunction.{spans_of}
use Rattle.sf_asm.specs.Linking.{overlap_fault, overlap_in, overlap_left}
use Rattle.sf_asm.proofs.gathering.check_overlaps.Given as goal

-- the overlaps of all are those of what was seen and what is left
abbrev pub invariant-loop-number : goal.invariant-loop-number
invariant-loop-number l = option_map overlap_fault (overlap_in (spans_of l.entries)) ≡ overlap_left l.overlaps (spans_of (drop l.number l.entries))
