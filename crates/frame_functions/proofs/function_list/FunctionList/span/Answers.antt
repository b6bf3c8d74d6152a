use Rattle.std.proofs.Common.{◌<◌, List, get_or, length, ap, ◌∙◌, arith}
use Rattle.std.proofs.lemmas.List.{length-map}
use Rattle.frame_functions.specs.declared.read_function.ReadFunction.{ReadFunction}
use Rattle.frame_functions.specs.ListedFunctions.{read_in}
use Rattle.frame_functions.proofs.ListedFunctions.{entry_at}
use Rattle.frame_functions.proofs.function_list.FunctionList.span.Goals as goal

pub returns : goal.returns
returns c = λ d.
    let rows = c.self.inside.rows in
    let heads = c.self.inside.heads.items in
    let low : c.args.number < length heads = omega (arith, c.requires, length-map heads (read_in rows), ap length c.self.view_is) in
    c.span.ensures
    ∙ ap (λ (e : ReadFunction). e.span) (entry_at rows heads c.args.number d c.index.result.now low c.index.ensures ∙ ap (λ (es : List ReadFunction). get_or es c.args.number d) c.self.view_is)
