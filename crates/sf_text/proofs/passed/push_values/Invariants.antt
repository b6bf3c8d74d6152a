use Rattle.std.proofs.Common.{◌≡◌, ◌++◌, drop}
use Rattle.std.specs.Prelude.{string_bytes}
use Rattle.std.specs.List.{flat_map}
use Rattle.sf_text.specs.FaultLine.{value_text}
use Rattle.sf_text.proofs.passed.push_values.Given as goal

-- what is there and the values that are left are all that is to be there
abbrev pub invariant-loop-value : goal.invariant-loop-value
invariant-loop-value l = string_bytes l.text ++ flat_map value_text (drop l.value-index l.values) ≡ string_bytes l.initial.text ++ flat_map value_text l.values
