use Rattle.std.proofs.Common.{◌<◌, length, ◌∙◌, sym, ap, arith}
use Rattle.sf_model.specs.declared.function.Func.{Func}
use Rattle.sf_decode.specs.View.{table_of, function_of}
use Rattle.sf_lookup.proofs.Searched.{start_is, starts_length}
use Rattle.sf_lookup.proofs.starts.ViewStarts.start_at.Goals as goal

pub returns-clause-value : goal.returns-clause-value
returns-clause-value g c =
    let functions = (table_of c.args.self.now).functions in
    let f = function_of c.args.self.now c.args.i in
    let within : c.args.i < length functions = omega (c.requires, starts_length functions, arith) in
    c.start.ensures ∙ sym (start_is functions c.args.i f within ∙ ap (λ (x : Func). x.start) (c.functions_are_numbered.ensures c.args.i f within))
