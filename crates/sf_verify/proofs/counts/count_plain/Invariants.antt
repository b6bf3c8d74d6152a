use Rattle.std.proofs.Common.{◌≡◌, length, take}
use Rattle.std.specs.List.{filter}
use Rattle.sf_decode.specs.View.{table_of}
use Rattle.sf_verify.specs.Agreement.{is_plain}
use Rattle.sf_verify.proofs.counts.count_plain.Given as goal

abbrev pub invariant-loop-number : goal.invariant-loop-number
invariant-loop-number l = l.count ≡ length (filter is_plain (take l.number (table_of l.view).functions))
