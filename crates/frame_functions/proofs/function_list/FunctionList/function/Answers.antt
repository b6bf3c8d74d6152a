use Rattle.std.proofs.Common.{◌<◌, List, get_or, length, subst, sym, ap, ◌∙◌, arith}
use Rattle.std.proofs.lemmas.List.{length-map}
use Rattle.frame_functions.specs.declared.read_function.ReadFunction.{ReadFunction}
use Rattle.frame_functions.specs.ListedFunctions.{HasRows, read_in}
use Rattle.frame_functions.proofs.ListedFunctions.{entry_at}
use Rattle.frame_functions.proofs.Lending.{if_ok}
use Rattle.frame_functions.proofs.function_list.FunctionList.function.Goals as goal

pub function_of-requires : goal.function_of-requires
function_of-requires c =
    let rows = c.self.inside.rows in
    let heads = c.self.inside.heads.items in
    let low : c.args.number < length heads = omega (arith, c.requires, length-map heads (read_in rows), ap length c.self.view_is) in
    subst (HasRows rows) (sym c.index.ensures) (c.self.invariant c.args.number c.index.result.now low)

pub returns : goal.returns
returns c =
    let rows = c.self.inside.rows in
    let heads = c.self.inside.heads.items in
    let low : c.args.number < length heads = omega (arith, c.requires, length-map heads (read_in rows), ap length c.self.view_is) in
    if_ok c.function_of.result _ _
    (λ given same. λ d.
    ap (λ (e : ReadFunction). e.outcome) (sym (entry_at rows heads c.args.number d c.index.result.now low c.index.ensures ∙ ap (λ (es : List ReadFunction). get_or es c.args.number d) c.self.view_is))
    ∙ same)
    c.function_of.ensures
