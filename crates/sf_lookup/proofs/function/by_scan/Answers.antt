use Rattle.std.proofs.Common.{◌≡◌, ◌<◌, true, false, length, sym, ◌∙◌, arith}
use Rattle.sf_model.specs.Lookup.{contains}
use Rattle.sf_decode.specs.View.{table_of, function_of}
use Rattle.sf_lookup.proofs.Numbered.{contains_head, skips, takes}
use Rattle.sf_lookup.proofs.function.by_scan.Goals as goal

pub returns-then-contains-clause-first : goal.returns-then-contains-clause-first
returns-then-contains-clause-first c =
    let functions = (table_of c.args.view.now).functions in
    let f = function_of c.args.view.now c.loop-i.i in
    let within : c.loop-i.i < length functions = omega (c.loop-i-test.true, c.len-i-end.ensures.value, arith) in
    let holds : contains c.args.pc f ≡ true = contains_head c.args.pc f c.func.result c.contains.result c.func.ensures c.contains.ensures ∙ c.if-contains.true in
    sym (takes (contains c.args.pc) functions c.loop-i.i f within (c.functions_are_numbered.ensures c.loop-i.i f within) holds) ∙ c.loop-i.invariant

pub loop-i-preserved : goal.loop-i-preserved
loop-i-preserved c =
    let functions = (table_of c.args.view.now).functions in
    let f = function_of c.args.view.now c.loop-i.i in
    let within : c.loop-i.i < length functions = omega (c.loop-i-test.true, c.len-i-end.ensures.value, arith) in
    let not : contains c.args.pc f ≡ false = contains_head c.args.pc f c.func.result c.contains.result c.func.ensures c.contains.ensures ∙ c.if-contains.false in
    sym (skips (contains c.args.pc) functions c.loop-i.i f within (c.functions_are_numbered.ensures c.loop-i.i f within) not) ∙ c.loop-i.invariant
