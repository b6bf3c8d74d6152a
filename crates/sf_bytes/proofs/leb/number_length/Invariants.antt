use Rattle.std.proofs.Common.{◌≡◌, ◌≤◌, ◌-◌, drop}
use Rattle.sf_bytes.specs.Leb.{run_length}
use Rattle.sf_bytes.proofs.Run.{plus}
use Rattle.sf_bytes.proofs.leb.number_length.Given as goal

abbrev pub invariant-loop-byte : goal.invariant-loop-byte
invariant-loop-byte l = record {
  counted : l.count ≡ l.byte-index;
  most : l.count ≤ 10;
  rest : plus l.count (run_length l.place (10 - l.count) (drop l.count l.bytes)) ≡ run_length l.place 10 l.bytes;
}
