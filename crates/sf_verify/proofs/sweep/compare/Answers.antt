use Rattle.std.proofs.Common.{◌≡◌, ◌+◌, ◌<◌, ℕ, false, None, get_or, length, sym, ap, subst, ◌∙◌, arith}
use Rattle.std.proofs.lemmas.List.{get_or_default}
use Rattle.sf_model.specs.declared.function.Func.{Func}
use Rattle.sf_model.specs.declared.function.FuncHead.{FuncHead}
use Rattle.sf_model.specs.declared.machine.Arch.{Arch}
use Rattle.sf_verify.specs.Agreement.{is_plain, is_plain_shape}
use Rattle.sf_verify.specs.Asking.{IsReady, contents_of}
use Rattle.sf_merge.specs.Located.{located_functions}
use Rattle.sf_verify.specs.Comparing.{Compares, IsComparable, func_read, function_content}
use Rattle.frame_functions.specs.ContentAt.{Answers}
use Rattle.sf_verify.specs.SectionContent.{section_at}
use Rattle.sf_verify.proofs.Compared.{later, no_difference, same_again}
use Rattle.sf_verify.proofs.Rowwise.{func_is, some_function}
use Rattle.sf_verify.proofs.Swept.{agree_at, agree_everywhere, differ_found, next_start, over_more, repeated_over}
use Rattle.sf_verify.proofs.sweep.compare.Goals as goal
use Rattle.sf_verify.proofs.sweep.compare.Goals.{then-is_plain_shape+in_ok-compared+else-is_some, else-is_plain_shape}

pub compare_function-requires-clause-ready : goal.compare_function-requires-clause-ready
compare_function-requires-clause-ready c =
    let d = some_function c.head-head.result in
    let lt : c.loop-place.place < length c.args.functions.now = omega (arith, c.loop-place-test.true, c.len-place-end.ensures) in
    subst (λ (n : ℕ). IsReady c.loop-place.dwarf n) (sym (ap (λ (h : FuncHead). h.start) (c.head-head.ensures d))) (c.loop-place.invariant.ready d lt)

pub compare_function-requires-clause-comparable : goal.compare_function-requires-clause-comparable
compare_function-requires-clause-comparable c =
    let d = some_function c.head-head.result in
    let place = c.loop-place.place in
    let lt : place < length c.args.functions.now = omega (arith, c.loop-place-test.true, c.len-place-end.ensures) in
    let read = func_is (get_or c.args.functions.now place d).func c.head-head.result c.rows.result (c.head-head.ensures d) (c.rows.ensures d) in
    subst (λ (a : Arch). IsComparable a (func_read c.head-head.result c.rows.result)) (sym c.loop-place.invariant.same.arch)
    (subst (IsComparable c.args.dwarf.now.arch) (sym read) (c.requires.comparable.each place d lt))

pub returns-then-is_some : goal.returns-then-is_some
returns-then-is_some c =
    let d = some_function c.head-head.result in
    let functions = c.args.functions.now in
    let place = c.loop-place.place in
    let lt : place < length functions = omega (arith, c.loop-place-test.true, c.len-place-end.ensures) in
    let l = get_or functions place d in
    let is = get_or_default functions place d l lt in
    let read = func_is l.func c.head-head.result c.rows.result (c.head-head.ensures d) (c.rows.ensures d) in
    let of_func = subst (λ (f : Func). Compares (function_content f) (contents_of c.loop-place.dwarf) f.start (f.start + f.size) c.in_ok-compared.compared) read c.in_ok-compared.ensures.compared in
    let compared = subst (λ (q : Answers). Compares (function_content l.func) q l.func.start (l.func.start + l.func.size) c.in_ok-compared.compared) c.loop-place.invariant.same.says of_func in
    differ_found functions (contents_of c.args.dwarf.now) place l c.in_ok-compared.compared (sym c.is_some.ensures ∙ c.if-is_some.true) c.requires.comparable.apart lt is c.loop-place.invariant.agree compared

pub loop-place-preserved : goal.loop-place-preserved
loop-place-preserved c =
    let d = some_function c.head-head.result in
    let inv = c.loop-place.invariant in
    let functions = c.args.functions.now in
    let place = c.loop-place.place in
    let apart = c.requires.comparable.apart in
    let lt : place < length functions = omega (arith, c.loop-place-test.true, c.len-place-end.ensures) in
    let l = get_or functions place d in
    let is = get_or_default functions place d l lt in
    let start = ap (λ (h : FuncHead). h.start) (c.head-head.ensures d) in
    let size = ap (λ (h : FuncHead). h.size) (c.head-head.ensures d) in
    elim c.if-is_plain_shape.branch [
      | then-is_plain_shape+in_ok-compared+else-is_some w ↦
          let read = func_is l.func c.head-head.result w.rows.result (c.head-head.ensures d) (w.rows.ensures d) in
          let of_func = subst (λ (f : Func). Compares (function_content f) (contents_of c.loop-place.dwarf) f.start (f.start + f.size) w.in_ok-compared.compared) read w.in_ok-compared.ensures.compared in
          let compared = subst (λ (q : Answers). Compares (function_content l.func) q l.func.start (l.func.start + l.func.size) w.in_ok-compared.compared) inv.same.says of_func in
          let none : w.in_ok-compared.compared ≡ None = no_difference w.in_ok-compared.compared w.is_some.result w.is_some.ensures w.if-is_some.false in
          rw w.dwarf-is (record {
            same = same_again _ _ _ inv.same w.in_ok-compared.ensures.same;
            ready = λ e more. let next = next_start functions place l apart lt is e more in later _ _ _ w.in_ok-compared.ensures.ready (omega (arith, next, start, size));
            agree = over_more (section_at (located_functions functions)) (contents_of c.args.dwarf.now) functions place l lt is inv.agree (agree_at functions (contents_of c.args.dwarf.now) place l w.in_ok-compared.compared apart lt is none compared);
          })
      | else-is_plain_shape w ↦
          let shape = ap (λ (h : FuncHead). is_plain_shape h.shape) (c.head-head.ensures d) in
          let repeated : is_plain l.func ≡ false = sym shape ∙ sym c.is_plain_shape.ensures ∙ w.if-is_plain_shape.false in
          rw w.dwarf-is (record {
            same = inv.same;
            ready = λ e more. let next = next_start functions place l apart lt is e more in later _ _ _ (inv.ready d lt) (omega (arith, next));
            agree = over_more (section_at (located_functions functions)) (contents_of c.args.dwarf.now) functions place l lt is inv.agree (repeated_over functions (contents_of c.args.dwarf.now) place l apart lt is repeated);
          })
    ]

pub returns : goal.returns
returns c = agree_everywhere c.args.functions.now (contents_of c.args.dwarf.now) c.loop-place.place (omega (arith, c.loop-place-test.false, c.len-place-end.ensures)) c.loop-place.invariant.agree
