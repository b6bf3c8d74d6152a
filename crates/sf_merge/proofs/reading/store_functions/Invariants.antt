use Rattle.std.proofs.Common.{◌≡◌, ◌++◌, drop}
use Rattle.std.specs.List.{filter}
use Rattle.sf_decode.specs.View.{table_of}
use Rattle.sf_merge.specs.Located.{is_sized, located}
use Rattle.sf_merge.proofs.Read.{left_in}
use Rattle.sf_merge.proofs.reading.store_functions.Given as goal

abbrev pub invariant-loop-number : goal.invariant-loop-number
invariant-loop-number l =
    l.initial.all ++ filter is_sized (located l.item (table_of l.view)) ≡ l.all ++ left_in l.item l.number (drop l.number (table_of l.view).functions)
