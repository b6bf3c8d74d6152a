use Rattle.std.proofs.Common.{◌≡◌, ◌≤◌, ◌<◌, ◌^◌, drop, length}
use Rattle.std.specs.Fmt.{decimal}
use Rattle.sf_text.proofs.Numerals.{digits_before}
use Rattle.sf_text.proofs.digits.write_decimal.Given as goal

-- the digits so far come after those of what is left, and what is left fits the places that are free
abbrev pub invariant-loop-left : goal.invariant-loop-left
invariant-loop-left l = record {
  some : 1 ≤ l.start;
  sized : length l.bytes ≡ 20;
  in_range : l.start ≤ 20;
  fits : l.left < 10 ^ l.start;
  text : digits_before l.start 10 l.left (drop l.start l.bytes) ≡ decimal l.number;
}

abbrev pub decreases-loop-left : goal.decreases-loop-left
decreases-loop-left l = l.start
