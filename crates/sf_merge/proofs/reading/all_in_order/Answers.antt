use Rattle.std.proofs.Common.{◌+◌, All, List, ◌++◌, map, drop, ap, sym, subst, ◌∙◌, append_assoc, arith}
use Rattle.std.specs.List.{filter}
use Rattle.std.proofs.lemmas.List.{take_all}
use Rattle.std.proofs.lemmas.List.Elements.{All-more}
use Rattle.sf_decode.specs.View.{table_of}
use Rattle.sf_functions.specs.Order.{IsInOrder}
use Rattle.sf_merge.specs.declared.located.Located.{Located}
use Rattle.sf_merge.specs.Located.{is_sized, located, located_start, sized_in_all}
use Rattle.sf_merge.specs.Views.{IsViewOfSection}
use Rattle.sf_merge.proofs.Read.{sized_from, section_left, none_left}
use Rattle.sf_merge.proofs.reading.all_in_order.Goals as goal

pub loop-view-preserved : goal.loop-view-preserved
loop-view-preserved c =
    let views = c.args.views.now in
    let view = c.view-item.result in
    let i = c.loop-view.view-index in
    let item = c.loop-view.item in
    let so_far = c.loop-view.all in
    let own = filter is_sized (located item (table_of view)) in
    let rest = sized_from (item + 1) (map table_of (drop (i + 1) views)) in
    record {
      item = omega (c.loop-view.invariant.item, arith);
      all = c.loop-view.invariant.all ∙ ap (λ (ls : List Located). so_far ++ ls) (section_left item views i view c.loop-view-test.true c.view-item.is)
          ∙ sym (append_assoc so_far own rest) ∙ ap (λ (ls : List Located). ls ++ rest) (sym c.in_ok-store_functions.ensures.all);
      read = All-more IsViewOfSection views i view c.loop-view-test.true c.loop-view.invariant.read (subst IsViewOfSection c.view-item.is c.store_functions.ensures.read);
    }

pub returns-clause-order : goal.returns-clause-order
returns-clause-order c =
    let views = c.args.views.now in
    let all = none_left (sized_in_all (map table_of views)) c.loop-view.all c.loop-view.item views c.loop-view.view-index c.loop-view-test.false c.loop-view.invariant.all in
    subst (λ (ls : List Located). IsInOrder located_start ls c.order.new.self) (sym all) c.in_ok-order.ensures

pub returns-clause-read : goal.returns-clause-read
returns-clause-read c = subst (All IsViewOfSection) (take_all c.loop-view.view-index c.args.views.now c.loop-view-test.false) c.loop-view.invariant.read
