use Rattle.std.proofs.Common.{◌≡◌, All, map, take, drop}
use Rattle.sf_decode.specs.declared.view.View.{View}
use Rattle.sf_decode.specs.View.{table_of}
use Rattle.sf_merge.specs.Merging.{other_machine_fault}
use Rattle.sf_merge.proofs.Checks.{mixed_from}
use Rattle.sf_merge.proofs.checking.check_machines.Given as goal

abbrev pub invariant-loop-view : goal.invariant-loop-view
invariant-loop-view l = record {
  item : l.item ≡ l.view-index;
  same : All (λ (view : View). (table_of view).arch ≡ l.arch) (take l.view-index l.views);
  rest : other_machine_fault (map table_of l.views) ≡ mixed_from l.arch l.item (map table_of (drop l.view-index l.views));
}
