use Rattle.std.proofs.Common.{◌≡◌, ◌+◌, ◌<◌, All, List, [], ◌∷◌, ◌++◌, length, drop, ap, subst, sym, ◌∙◌, arith}
use Rattle.sf_model.specs.declared.function.FuncHead.{FuncHead}
use Rattle.sf_decode.specs.View.{table_of, function_of}
use Rattle.sf_merge.specs.declared.in_section.SectionEntry.{SectionEntry}
use Rattle.sf_merge.specs.declared.located.Located.{Located}
use Rattle.sf_merge.specs.InSection.{IsEntry, all_at}
use Rattle.sf_merge.specs.OneSection.{sized_in}
use Rattle.sf_merge.proofs.InSection.{all_more, entries_more}
use Rattle.sf_merge.proofs.Read.{left_in, left_kept, left_passed}
use Rattle.sf_merge.proofs.reading.entries_of.Goals as goal
use Rattle.sf_merge.proofs.reading.entries_of.Goals.{then-head-ne0+in_ok-push, else-head-ne0}

pub loop-number-preserved : goal.loop-number-preserved
loop-number-preserved c =
    let view = c.args.view.now in
    let number = c.loop-number.number in
    let functions = (table_of view).functions in
    let f = function_of view number in
    let inv = c.loop-number.invariant in
    let so_far = c.loop-number.entries.items in
    let within : number < length functions = omega (c.loop-number-test.true, c.len-number-end.ensures.value, arith) in
    let is = c.functions_are_numbered.ensures number f within in
    let start : c.func-head.result.start ≡ f.start = ap (λ (head : FuncHead). head.start) c.func-head.ensures in
    let size : c.func-head.result.size ≡ f.size = ap (λ (head : FuncHead). head.size) c.func-head.ensures in
    let entry : SectionEntry = record { start = c.func-head.result.start; size = c.func-head.result.size; number = number } in
    let rest = left_in 0 (number + 1) (drop (number + 1) functions) in
    elim c.if-head-ne0.branch [
      | then-head-ne0+in_ok-push w ↦
          let pushed : c.if-head-ne0.entries.items ≡ so_far ++ entry ∷ [] = cc (w.entries-is, w.in_ok-push.ensures.items) in
          record {
            all = left_kept (sized_in (table_of view)) (all_at view so_far) 0 number functions f within is (omega (size, w.if-head-ne0.true, arith)) inv.all
                ∙ ap (λ (ls : List Located). ls ++ rest) (sym (ap (all_at view) pushed ∙ all_more view so_far entry));
            each = subst (All (IsEntry view)) (sym pushed) (entries_more view so_far entry inv.each record { within = within; start = start; size = size });
          }
      | else-head-ne0 w ↦
          let kept : c.if-head-ne0.entries.items ≡ so_far = cc (w.entries-is) in
          record {
            all = left_passed (sized_in (table_of view)) (all_at view so_far) 0 number functions f within is (omega (size, w.if-head-ne0.false, arith)) inv.all
                ∙ ap (λ (es : List SectionEntry). all_at view es ++ rest) (sym kept);
            each = subst (All (IsEntry view)) (sym kept) inv.each;
          }
    ]
