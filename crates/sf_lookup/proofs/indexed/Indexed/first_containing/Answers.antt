use Rattle.std.specs.Option.{option_map}
use Rattle.std.proofs.Common.{ap, ◌∙◌, arith}
use Rattle.sf_decode.specs.View.{table_of, function_of}
use Rattle.sf_lookup.specs.Numbered.{numbered}
use Rattle.sf_lookup.proofs.Indexing.{first_answers, first_within, numbered_length}
use Rattle.sf_lookup.proofs.indexed.Indexed.first_containing.Goals as goal

pub returns-in-Some-clause-within : goal.returns-in-Some-clause-within
returns-in-Some-clause-within g c =
    let functions = (table_of c.args.self.now.view).functions in
    first_within functions c.args.pc c.first_counted.result (c.first_counted.ensures.answer (numbered 0 functions) (c.args.self.now.ordered c.in-Some.spans c.in-Some.is))

pub returns-in-Some-clause-first : goal.returns-in-Some-clause-first
returns-in-Some-clause-first g c =
    let functions = (table_of c.args.self.now.view).functions in
    let led = c.first_counted.ensures.answer (numbered 0 functions) (c.args.self.now.ordered c.in-Some.spans c.in-Some.is) in
    ap (option_map (function_of c.args.self.now.view)) led ∙ first_answers (function_of c.args.self.now.view) functions c.args.pc (λ k d lt. c.functions_are_numbered.ensures k d lt)

pub returns-in-Some-clause-cost : goal.returns-in-Some-clause-cost
returns-in-Some-clause-cost g c =
    let functions = (table_of c.args.self.now.view).functions in
    let few = c.first_counted.ensures.cost (numbered 0 functions) (c.args.self.now.ordered c.in-Some.spans c.in-Some.is) in
    let count = numbered_length 0 functions in
    omega (few, count, arith)
