use Rattle.std.proofs.Common.{◌≡◌, ◌++◌, ◌<◌, true, [], ◌∷◌, length, get_or, ap, sym, subst, ◌∙◌, arith}
use Rattle.sf_model.specs.Function.{IsWritable}
use Rattle.sf_decode.specs.View.{rows_left}
use Rattle.sf_merge.specs.declared.located.Located.{Located}
use Rattle.sf_slim.specs.Pass.{has_row, kept_function, head_with_rows}
use Rattle.sf_slim.proofs.Storing.{function_is, passed_over, stored_more}
use Rattle.sf_slim.proofs.slimming.needed.Goals as goal
use Rattle.sf_slim.proofs.slimming.needed.Goals.{then-has_row+in_ok-keep_function+in_ok-push+in_ok-push-2, else-has_row}

pub push-requires : goal.push-requires
push-requires c =
    let d : Located = record { func = head_with_rows c.head-head.result (rows_left c.rows.result); item = 0; number = 0 } in
    let place = c.loop-place.place in
    let lt : place < length c.args.ordered.now = omega (arith, c.loop-place-test.true, c.len-place-end.ensures) in
    let f = (get_or c.args.ordered.now place d).func in
    let asked = function_is f c.head-head.result (rows_left c.rows.result) (c.head-head.ensures d) (c.rows.ensures d) in
    let read = function_is f c.head-head.result (rows_left c.rows-then-has_row.result) (c.head-head.ensures d) (c.rows-then-has_row.ensures d) in
    let answering : has_row f ≡ true = ap has_row (sym asked) ∙ sym c.has_row.ensures ∙ c.if-has_row.true in
    subst (IsWritable c.args.arch) (sym (c.in_ok-keep_function.ensures ∙ ap kept_function read)) (c.requires place d lt answering)

pub loop-place-preserved : goal.loop-place-preserved
loop-place-preserved c =
    let d : Located = record { func = head_with_rows c.head-head.result (rows_left c.rows.result); item = 0; number = 0 } in
    let ordered = c.args.ordered.now in
    let place = c.loop-place.place in
    let inv = c.loop-place.invariant in
    let so_far = c.loop-place.functions.items in
    let lt : place < length ordered = omega (arith, c.loop-place-test.true, c.len-place-end.ensures) in
    let f = (get_or ordered place d).func in
    let asked = function_is f c.head-head.result (rows_left c.rows.result) (c.head-head.ensures d) (c.rows.ensures d) in
    let answered : has_row f ≡ c.has_row.result = ap has_row (sym asked) ∙ sym c.has_row.ensures in
    elim c.if-has_row.branch [
      | then-has_row+in_ok-keep_function+in_ok-push+in_ok-push-2 w ↦
          let read = function_is f c.head-head.result (rows_left w.rows-then-has_row.result) (c.head-head.ensures d) (w.rows-then-has_row.ensures d) in
          let stored = w.in_ok-push.ensures.pushed in
          let pushed : c.if-has_row.functions.items ≡ so_far ++ w.in_ok-push.field-0 ∷ [] = cc (w.functions-is, w.in_ok-push-2.ensures.items) in
          let more = stored_more c.loop-place.rows w.push.new.self so_far c.if-has_row.functions.items w.in_ok-push.field-0 ordered place d w.push.ensures.keeps inv.stored inv.functions lt (answered ∙ w.if-has_row.true)
          (stored.0, stored.1 ∙ w.in_ok-keep_function.ensures ∙ ap kept_function read) pushed in
          rw w.rows-is (record { stored = more.0; functions = more.1 })
      | else-has_row w ↦
          rw (w.rows-is, w.functions-is) (record { stored = inv.stored; functions = inv.functions ∙ passed_over ordered place d lt (answered ∙ w.if-has_row.false) })
    ]
