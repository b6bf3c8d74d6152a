use Rattle.std.proofs.Common.{◌≡◌, ◌++◌, All, drop}
use Rattle.sf_decode.specs.View.{table_of}
use Rattle.sf_merge.specs.InSection.{IsEntry, all_at}
use Rattle.sf_merge.specs.OneSection.{sized_in}
use Rattle.sf_merge.proofs.Read.{left_in}
use Rattle.sf_merge.proofs.reading.entries_of.Given as goal

abbrev pub invariant-loop-number : goal.invariant-loop-number
invariant-loop-number l = record {
  all : sized_in (table_of l.view) ≡ all_at l.view l.entries.items ++ left_in 0 l.number (drop l.number (table_of l.view).functions);
  each : All (IsEntry l.view) l.entries.items;
}
