use Rattle.std.proofs.Common.{◌≡◌, ◌++◌, All, map, take, drop}
use Rattle.sf_decode.specs.View.{table_of}
use Rattle.sf_merge.specs.Located.{sized_in_all}
use Rattle.sf_merge.specs.Views.{IsViewOfSection}
use Rattle.sf_merge.proofs.Read.{sized_from}
use Rattle.sf_merge.proofs.reading.all_in_order.Given as goal

abbrev pub invariant-loop-view : goal.invariant-loop-view
invariant-loop-view l = record {
  item : l.item ≡ l.view-index;
  all : sized_in_all (map table_of l.views) ≡ l.all ++ sized_from l.item (map table_of (drop l.view-index l.views));
  read : All IsViewOfSection (take l.view-index l.views);
}
