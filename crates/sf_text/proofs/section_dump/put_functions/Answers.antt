use Rattle.std.proofs.Common.{◌<◌, ◌+◌, List, ℕ, length, take, drop, refl, ap, subst, ◌∙◌, arith}
use Rattle.std.proofs.lemmas.Result.{err_from_is_err_and}
use Rattle.std.specs.List.{flat_map}
use Rattle.sf_model.specs.declared.function.Func.{Func}
use Rattle.sf_decode.specs.View.{function_of, table_of}
use Rattle.sf_text.specs.Dump.{function_text}
use Rattle.sf_text.specs.Gathered.{Gathers}
use Rattle.sf_text.proofs.Appended.{gathers_both, gathers_part}
use Rattle.sf_text.proofs.Pieces.{items_with, texts_around, texts_with}
use Rattle.sf_text.proofs.section_dump.put_functions.Goals as goal

pub returns-in_err-put_function-clause-prefix : goal.returns-in_err-put_function-clause-prefix
returns-in_err-put_function-clause-prefix g c =
    let p = err_from_is_err_and c.from_residual.result c.from_residual.ensures.1 in
    let before = (g.S.Sink.seen c.args.sink.now).written in
    let between = (g.S.Sink.seen c.loop-i.sink).written in
    let after = (g.S.Sink.seen c.put_function.new.sink).written in
    let all = (table_of c.args.view.now).functions in
    let i = c.loop-i.i in
    let within : i < length all = omega (arith, c.loop-i-test.true, c.len-i-end.ensures.value) in
    let here = function_of c.args.view.now i in
    let numbered = c.functions_are_numbered.ensures i here within in
    rw p.1 (gathers_part before between after c.args.buffer.now.items c.loop-i.buffer.items (flat_map function_text (take i all)) (function_text here)
    (flat_map function_text (drop (i + 1) all)) (flat_map function_text all) c.loop-i.invariant.gathered c.in_err-put_function.ensures.prefix
    (texts_around function_text all i here within numbered))

pub loop-i-preserved : goal.loop-i-preserved
loop-i-preserved g c =
    let before = (g.S.Sink.seen c.args.sink.now).written in
    let between = (g.S.Sink.seen c.loop-i.sink).written in
    let after = (g.S.Sink.seen c.put_function.new.sink).written in
    let held = c.args.buffer.now.items in
    let all = (table_of c.args.view.now).functions in
    let i = c.loop-i.i in
    let within : i < length all = omega (arith, c.loop-i-test.true, c.len-i-end.ensures.value) in
    let here = function_of c.args.view.now i in
    let numbered = c.functions_are_numbered.ensures i here within in
    record {
      gathered = subst (λ (bs : List ℕ). Gathers before after held c.put_function.new.buffer.items bs)
          (texts_with function_text (take i all) here ∙ ap (λ (fs : List Func). flat_map function_text fs) (items_with all i here within numbered))
          (gathers_both before between after held c.loop-i.buffer.items c.put_function.new.buffer.items (flat_map function_text (take i all)) (function_text here)
          c.loop-i.invariant.gathered c.in_ok-put_function.ensures.all);
      faults = c.in_ok-put_function.ensures.cause.done refl ∙ c.loop-i.invariant.faults;
    }
