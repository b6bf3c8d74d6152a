use Rattle.std.proofs.Common.{◌≡◌, ◌+◌, ◌*◌, ◌++◌, drop}
use Rattle.std.specs.List.{flat_map}
use Rattle.arrayvec.specs.ArrayVec.{array_vec_len}
use Rattle.sf_text.specs.ShownName.{byte_text}
use Rattle.sf_text.proofs.shown_name.push_digits.Given as goal

-- what is there and the bytes that are left are all that is to be there
abbrev pub invariant-loop-byte : goal.invariant-loop-byte
invariant-loop-byte l = record {
  items : l.buffer.items ++ flat_map byte_text (drop l.byte-index l.bytes) ≡ l.initial.buffer.items ++ flat_map byte_text l.bytes;
  len : array_vec_len l.buffer ≡ array_vec_len l.initial.buffer + 4 * l.byte-index;
}
