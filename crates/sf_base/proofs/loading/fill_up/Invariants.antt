use Rattle.std.proofs.Common.{◌≡◌, ◌≤◌, ◌-◌, take, vec_len}
use Rattle.sf_base.proofs.loading.fill_up.Given as goal

-- the bytes that were there are in front
abbrev pub invariant-loop-bytes : goal.invariant-loop-bytes
invariant-loop-bytes l = record {
  within : vec_len l.bytes ≤ l.end;
  longer : vec_len l.fn.bytes ≤ vec_len l.bytes;
  front : take (vec_len l.fn.bytes) l.bytes.items ≡ l.fn.bytes.items;
}

abbrev pub decreases-loop-bytes : goal.decreases-loop-bytes
decreases-loop-bytes l = l.end - vec_len l.bytes
