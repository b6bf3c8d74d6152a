use Rattle.std.proofs.Common.{◌≡◌, None, rules}
use Rattle.cfa_machine.specs.Left.{rows_left}
use Rattle.sf_express.specs.Expressed.{reason_of}
use Rattle.sf_express.proofs.Running.{packed_function}
use Rattle.sf_express.proofs.run.express_run.Goals as goal

pub returns-in-Ok : goal.returns-in-Ok
returns-in-Ok c =
    let none : reason_of c.args.arch c.args.facts.now ≡ None = search rules in
    record {
      exact = packed_function c.args.arch c.args.facts.now (rows_left c.args.run.now) c.run_rows.new.kept c.in_ok-run_rows.field-0 c.in-Ok.field-0 c.head_with.result c.len.result none c.in-Ok.is c.in_ok-run_rows.ensures
          c.head_with.ensures c.len.ensures;
    }
