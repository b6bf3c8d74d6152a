use Rattle.std.proofs.Common.{Result, Ok, subst}
use Rattle.sf_model.specs.declared.function.FuncHead.{FuncHead}
use Rattle.sf_model.specs.declared.omission.Omission.{Omission}
use Rattle.cfa_machine.specs.Left.{rows_left}
use Rattle.sf_express.specs.Expressed.{function_by}
use Rattle.sf_express.specs.Run.{PacksFunction, on_rows}
use Rattle.frame_functions.proofs.MadeRows.{kept_outcome, made_packed}
use Rattle.frame_functions.proofs.section.outcome_of.Goals as goal

pub packed-requires : goal.packed-requires
packed-requires c =
    let given = on_rows (function_by c.args.section.now.arch c.args.facts.now) (rows_left c.args.run.now) in
    let made = subst (λ (r : Result FuncHead Omission). PacksFunction c.express_run.new.rows (Ok r) given) c.in-Ok-Ok.field-0-is c.in-Ok-Ok.ensures.exact in
    (made.0, made_packed c.args.section.now.arch c.args.facts.now (rows_left c.args.run.now) made.0 c.in-Ok-Ok.head c.express_run.new.rows c.requires.rows made.1 made.2 made.3)

pub returns-in-Ok-Ok-clause-given : goal.returns-in-Ok-Ok-clause-given
returns-in-Ok-Ok-clause-given c =
    let given = on_rows (function_by c.args.section.now.arch c.args.facts.now) (rows_left c.args.run.now) in
    let made = subst (λ (r : Result FuncHead Omission). PacksFunction c.express_run.new.rows (Ok r) given) c.in-Ok-Ok.field-0-is c.in-Ok-Ok.ensures.exact in
    let is = made_packed c.args.section.now.arch c.args.facts.now (rows_left c.args.run.now) made.0 c.in-Ok-Ok.head c.express_run.new.rows c.requires.rows made.1 made.2 made.3 in
    kept_outcome c.args.section.now.arch c.args.facts.now (rows_left c.args.run.now) made.0 c.packed.result made.1 (c.packed.ensures made.0 is)
