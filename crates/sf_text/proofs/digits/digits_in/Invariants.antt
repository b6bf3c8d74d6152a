use Rattle.std.proofs.Common.{◌≡◌, ◌≤◌, ◌<◌, ◌^◌, false, drop, length}
use Rattle.std.specs.Fmt.{digits}
use Rattle.sf_text.proofs.Numerals.{digits_before}
use Rattle.sf_text.proofs.digits.digits_in.Given as goal

-- the digits of what is left, in front of those that are there, are all digits; what is left fits the places that are free
abbrev pub invariant-loop-left : goal.invariant-loop-left
invariant-loop-left l = record {
  some : 1 ≤ l.start;
  sized : length l.bytes ≡ 20;
  in_range : l.start ≤ 20;
  fits : l.left < l.base ^ l.start;
  text : digits_before l.start l.base l.left (drop l.start l.bytes) ≡ digits l.base false l.number;
}

abbrev pub decreases-loop-left : goal.decreases-loop-left
decreases-loop-left l = l.start
