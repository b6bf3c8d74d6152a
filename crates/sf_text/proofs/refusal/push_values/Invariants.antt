use Rattle.std.proofs.Common.{◌≡◌, ◌≤◌, ◌+◌, ◌*◌, ◌++◌, drop}
use Rattle.std.specs.List.{flat_map}
use Rattle.arrayvec.specs.ArrayVec.{array_vec_len}
use Rattle.sf_text.specs.FaultLine.{value_text}
use Rattle.sf_text.proofs.refusal.push_values.Given as goal

-- what is there and the values that are left are all that is to be there
abbrev pub invariant-loop-value : goal.invariant-loop-value
invariant-loop-value l = record {
  items : l.line.items ++ flat_map value_text (drop l.value-index l.values) ≡ l.initial.line.items ++ flat_map value_text l.values;
  len : array_vec_len l.line ≤ array_vec_len l.initial.line + 23 * l.value-index;
}
