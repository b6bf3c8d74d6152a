use Rattle.std.proofs.Common.{◌<◌, length, ◌∙◌, arith}
use Rattle.sf_decode.specs.View.{function_of, table_of}
use Rattle.sf_c.proofs.Longest.{greater, one_more}
use Rattle.sf_c.proofs.rows.most_rows.Goals as goal

pub loop-i-preserved : goal.loop-i-preserved
loop-i-preserved c =
    let functions = (table_of c.args.view.now).functions in
    let f = function_of c.args.view.now c.loop-i.i in
    let within : c.loop-i.i < length functions = omega (c.loop-i-test.true, c.len-i-end.ensures.value, arith) in
    c.max-most.ensures ∙ greater c.loop-i.most c.func.result.rows
    ∙ one_more functions c.loop-i.i c.loop-i.most f c.func.result within (c.functions_are_numbered.ensures c.loop-i.i f within) c.func.ensures c.loop-i.invariant
