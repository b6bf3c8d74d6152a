use Rattle.std.proofs.Common.{◌<◌, length, arith}
use Rattle.sf_decode.specs.View.{table_of, function_of}
use Rattle.sf_lookup.proofs.Indexing.{one_more}
use Rattle.sf_lookup.proofs.indexed.spans_of.Goals as goal

pub loop-i-preserved : goal.loop-i-preserved
loop-i-preserved c =
    let functions = (table_of c.args.view.now).functions in
    let f = function_of c.args.view.now c.loop-i.i in
    let within : c.loop-i.i < length functions = omega (c.loop-i-test.true, c.len-i-end.ensures.value, arith) in
    one_more functions c.loop-i.i f c.func-func.result c.loop-i.spans.items c.push.new.self.items _ within (c.functions_are_numbered.ensures c.loop-i.i f within) c.func-func.ensures c.from.ensures c.in_ok-push.ensures.items c.loop-i.invariant
