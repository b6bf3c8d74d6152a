use Rattle.std.proofs.Common.{◌≡◌, ◌<◌, ◌-◌, length, ap, sym, ◌∙◌}
use Rattle.std.specs.Option.{option_map}
use Rattle.sf_model.specs.Lookup.{contains}
use Rattle.sf_decode.specs.View.{table_of, function_of}
use Rattle.sf_lookup.proofs.Numbered.{contains_head}
use Rattle.sf_lookup.proofs.Searched.{last_decides, last_within, none_reached, within_digits, within_if}
use Rattle.sf_lookup.proofs.function.by_start.Goals as goal

pub returns-in_err-i-clause-first : goal.returns-in_err-i-clause-first
returns-in_err-i-clause-first g c =
    ap (option_map (function_of c.args.view.now)) c.from_residual.ensures ∙ sym (none_reached (table_of c.args.view.now).functions c.args.pc c.in_err-i.ensures.last)

pub returns-clause-first : goal.returns-clause-first
returns-clause-first g c =
    let functions = (table_of c.args.view.now).functions in
    let f = function_of c.args.view.now c.in_ok-i.i in
    let within : c.in_ok-i.i < length functions = last_within functions c.args.pc c.in_ok-i.i c.in_ok-i.ensures.last in
    let holds : contains c.args.pc f ≡ c.contains.result = contains_head c.args.pc f c.func.result c.contains.result c.func.ensures c.contains.ensures in
    ap (option_map (function_of c.args.view.now)) c.then_some.ensures
    ∙ last_decides functions c.args.pc c.in_ok-i.i (function_of c.args.view.now) c.contains.result c.functions_stand_apart.ensures c.in_ok-i.ensures.last
    (λ d. c.functions_are_numbered.ensures c.in_ok-i.i d within) holds

pub returns-clause-within : goal.returns-clause-within
returns-clause-within g c =
    let functions = (table_of c.args.view.now).functions in
    within_if c.contains.result c.in_ok-i.i (length functions) c.then_some.result c.then_some.ensures (last_within functions c.args.pc c.in_ok-i.i c.in_ok-i.ensures.last)

pub returns-clause-cost : goal.returns-clause-cost
returns-clause-cost g c = within_digits (table_of c.args.view.now).functions (c.last_start.new.steps - c.args.steps.now) c.in_ok-i.ensures.cost

pub returns-in_err-i-clause-cost : goal.returns-in_err-i-clause-cost
returns-in_err-i-clause-cost g c = within_digits (table_of c.args.view.now).functions (c.last_start.new.steps - c.args.steps.now) c.in_err-i.ensures.cost
