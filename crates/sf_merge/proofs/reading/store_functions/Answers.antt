use Rattle.std.proofs.Common.{◌≡◌, ◌+◌, ◌<◌, List, [], ◌∷◌, ◌++◌, length, drop, ap, sym, subst, ◌∙◌, arith}
use Rattle.std.specs.List.{filter}
use Rattle.sf_model.specs.declared.function.Func.{Func}
use Rattle.sf_decode.specs.View.{table_of, function_of}
use Rattle.sf_merge.specs.declared.located.Located.{Located}
use Rattle.sf_merge.specs.Heads.{IsStorable}
use Rattle.sf_merge.specs.Located.{at_entry, is_sized, located}
use Rattle.sf_merge.proofs.Read.{left_in, left_kept, left_passed}
use Rattle.sf_merge.proofs.Sound.{storable}
use Rattle.sf_merge.proofs.reading.store_functions.Goals as goal
use Rattle.sf_merge.proofs.reading.store_functions.Goals.{then-spare-ne0+in_ok-push, else-spare-ne0}

pub push-requires : goal.push-requires
push-requires c =
    let view = c.args.view.now in
    let number = c.loop-number.number in
    let f = function_of view number in
    let within : number < length (table_of view).functions = omega (c.loop-number-test.true, c.len-number-end.ensures.value, arith) in
    let size : c.read_function.new.func.size ≡ f.size = ap (λ (g : Func). g.size) c.in_ok-read_function.ensures in
    subst (IsStorable c.arch.result) (sym c.in_ok-read_function.ensures)
    (storable view number c.arch.result f c.view_is_a_section.ensures c.arch.ensures within (c.functions_are_numbered.ensures number f within) (omega (size, c.if-spare-ne0.true, arith)))

pub loop-number-preserved : goal.loop-number-preserved
loop-number-preserved c =
    let item = c.args.item in
    let number = c.loop-number.number in
    let functions = (table_of c.args.view.now).functions in
    let f = function_of c.args.view.now number in
    let all = c.args.all.now ++ filter is_sized (located item (table_of c.args.view.now)) in
    let so_far = c.loop-number.all in
    let within : number < length functions = omega (c.loop-number-test.true, c.len-number-end.ensures.value, arith) in
    let is = c.functions_are_numbered.ensures number f within in
    let size : c.read_function.new.func.size ≡ f.size = ap (λ (g : Func). g.size) c.in_ok-read_function.ensures in
    let rest = left_in item (number + 1) (drop (number + 1) functions) in
    elim c.if-spare-ne0.branch [
      | then-spare-ne0+in_ok-push w ↦
          let pushed : c.if-spare-ne0.all ≡ so_far ++ at_entry item (number, f) ∷ [] = cc (w.all-is, w.in_ok-push.ensures, c.in_ok-read_function.ensures) in
          left_kept all so_far item number functions f within is (omega (size, w.if-spare-ne0.true, arith)) c.loop-number.invariant ∙ ap (λ (ls : List Located). ls ++ rest) (sym pushed)
      | else-spare-ne0 w ↦
          let kept : c.if-spare-ne0.all ≡ so_far = cc (w.all-is) in
          left_passed all so_far item number functions f within is (omega (size, w.if-spare-ne0.false, arith)) c.loop-number.invariant ∙ ap (λ (ls : List Located). ls ++ rest) (sym kept)
    ]
