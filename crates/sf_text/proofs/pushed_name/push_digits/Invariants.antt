use Rattle.std.proofs.Common.{◌≡◌, ◌++◌, drop}
use Rattle.std.specs.List.{flat_map}
use Rattle.std.specs.Prelude.{string_bytes}
use Rattle.sf_text.specs.ShownName.{byte_text}
use Rattle.sf_text.proofs.pushed_name.push_digits.Given as goal

-- what is there and the bytes that are left are all that is to be there
abbrev pub invariant-loop-byte : goal.invariant-loop-byte
invariant-loop-byte l = string_bytes l.text ++ flat_map byte_text (drop l.byte-index l.bytes) ≡ string_bytes l.initial.text ++ flat_map byte_text l.bytes
