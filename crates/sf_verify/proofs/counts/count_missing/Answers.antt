use Rattle.std.specs.Prelude.{not}
use Rattle.std.specs.List.{filter, list_any}
use Rattle.std.proofs.Common.{◌≡◌, ℕ, ◌+◌, ◌≤◌, ◌<◌, Bool, arith, get_or, length, take, ap, sym, subst, ◌∙◌}
use Rattle.std.proofs.lemmas.List.{get_or_default}
use Rattle.std.proofs.lemmas.List.Filters.{length-filter_more}
use Rattle.sf_model.specs.declared.function.Func.{Func}
use Rattle.sf_model.specs.declared.function.FuncHead.{FuncHead}
use Rattle.sf_decode.specs.View.{head_of}
use Rattle.sf_merge.specs.declared.located.Located.{Located}
use Rattle.sf_merge.specs.Located.{located_functions}
use Rattle.sf_verify.specs.Counting.{StartBefore, represents_kept, is_absent}
use Rattle.sf_asm.proofs.RowAt.{some_of}
use Rattle.sf_verify.proofs.Counted.{later_before, one_if, taken_most, there_is}
use Rattle.sf_verify.proofs.counts.count_missing.Goals as goal
use Rattle.sf_verify.proofs.counts.count_missing.Goals.{then-not-is_there, else-not-is_there}

pub overflow_add-missing : goal.overflow_add-missing
overflow_add-missing c =
    let most = taken_most (is_absent (located_functions c.args.functions.now)) c.args.kept.now c.loop-place.place in
    record { fits = omega (arith, most, c.loop-place.invariant.count, c.loop-place-test.true, c.len-place-end.ensures, c.requires.few) }

pub loop-place-preserved : goal.loop-place-preserved
loop-place-preserved c =
    let functions = c.args.functions.now in
    let kept = c.args.kept.now in
    let place = c.loop-place.place in
    let low : place < length kept = omega (arith, c.loop-place-test.true, c.len-place-end.ensures) in
    let e : Func = some_of kept place low in
    let k : Func = get_or kept place e in
    let same : k ≡ get_or kept place k = get_or_default kept place e k low in
    let is : c.head-head.result ≡ head_of k = c.head-head.ensures e in
    let start : c.head-head.result.start ≡ k.start = ap (λ (h : FuncHead). h.start) is in
    let d : Located = record { func = k; item = 0; number = 0 } in
    let passed : StartBefore functions c.pass-next.result k.start = subst (StartBefore functions c.pass-next.result) start c.pass-next.ensures.passed in
    let here : c.pass-next.result < length functions → k.start ≤ (get_or functions c.pass-next.result d).func.start = subst (λ (n : ℕ). c.pass-next.result < length functions → n ≤ (get_or functions c.pass-next.result d).func.start) start (c.pass-next.ensures.here d) in
    let any : list_any (represents_kept k) (located_functions functions) ≡ c.is_there.result = there_is k functions c.pass-next.result d c.is_there.result c.requires.functions passed here c.is_there.ensures.within (c.is_there.ensures.there k d is) in
    let absent : is_absent (located_functions functions) (get_or kept place k) ≡ not c.is_there.result = ap (is_absent (located_functions functions)) (sym same) ∙ ap not any in
    let more = length-filter_more (is_absent (located_functions functions)) kept place k low in
    let next : length (filter (is_absent (located_functions functions)) (take (place + 1) kept)) ≡ length (filter (is_absent (located_functions functions)) (take place kept)) + one_if (not c.is_there.result) =
    more ∙ ap (λ (b : Bool). length (filter (is_absent (located_functions functions)) (take place kept)) + one_if b) absent in
    record {
      before = λ f lt.
          let up = c.requires.kept place (place + 1) k (omega arith) lt in
          let rises : k.start ≤ (get_or kept (place + 1) f).start = let up' = subst (λ (g : Func). g.start < (get_or kept (place + 1) k).start) (sym same) up in subst (λ (g : Func). k.start ≤ g.start) (get_or_default kept (place + 1) k f lt) (omega (arith, up')) in
          later_before functions c.pass-next.result k.start (get_or kept (place + 1) f).start passed rises;
      count = elim c.if-not-is_there.branch [
        | then-not-is_there w ↦ let one = ap (λ (b : Bool). one_if (not b)) w.if-not-is_there.true in omega (arith, w.missing-is, c.loop-place.invariant.count, next, one)
        | else-not-is_there w ↦ let none = ap (λ (b : Bool). one_if (not b)) w.if-not-is_there.false in omega (arith, w.missing-is, c.loop-place.invariant.count, next, none)
      ];
    }
