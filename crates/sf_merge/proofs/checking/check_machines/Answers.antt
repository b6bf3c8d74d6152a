use Rattle.std.proofs.Common.{◌≡◌, ◌+◌, true, All, map, drop, ap, sym, subst, ◌∙◌, arith}
use Rattle.std.proofs.lemmas.List.{take_all}
use Rattle.std.proofs.lemmas.List.Elements.{All-more, All-map}
use Rattle.sf_model.specs.Table.{Table}
use Rattle.sf_decode.specs.declared.view.View.{View}
use Rattle.sf_decode.specs.View.{table_of}
use Rattle.sf_merge.specs.Merging.{same_arch}
use Rattle.sf_merge.proofs.Checks.{mixed_from, mixed_goes_on, one_machine, tables_more}
use Rattle.sf_merge.proofs.checking.check_machines.Goals as goal

pub loop-view-preserved : goal.loop-view-preserved
loop-view-preserved c =
    let views = c.args.views.now in
    let view = c.view-item.result in
    let arch = c.arch-arch.result in
    let i = c.loop-view.view-index in
    let same : same_arch arch (table_of view).arch ≡ true = ap (same_arch arch) (sym c.arch.ensures) ∙ sym c.same_arch.ensures ∙ c.if-not-same_arch.false in
    record {
      item = omega (c.loop-view.invariant.item, arith);
      same =
          All-more (λ (view : View). (table_of view).arch ≡ arch) views i view c.loop-view-test.true c.loop-view.invariant.same
          (subst (λ (v : View). (table_of v).arch ≡ arch) c.view-item.is (one_machine arch (table_of view).arch same));
      rest =
          c.loop-view.invariant.rest ∙ ap (mixed_from arch c.loop-view.item) (tables_more views i view c.loop-view-test.true c.view-item.is)
          ∙ mixed_goes_on arch c.loop-view.item (table_of view) (map table_of (drop (i + 1) views)) same;
    }

pub returns-clause-one : goal.returns-clause-one
returns-clause-one c =
    let views = c.args.views.now in
    let arch = c.arch-arch.result in
    All-map (λ (table : Table). table.arch ≡ arch) table_of views
    (subst (All (λ (view : View). (table_of view).arch ≡ arch)) (take_all c.loop-view.view-index views c.loop-view-test.false) c.loop-view.invariant.same)
