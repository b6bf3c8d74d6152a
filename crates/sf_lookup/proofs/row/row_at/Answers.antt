use Rattle.std.proofs.Common.{◌<◌, ◌≤◌, ◌∙◌, sym, ap, arith}
use Rattle.sf_decode.specs.View.{rows_left}
use Rattle.sf_lookup.specs.Steps.{rows_read}
use Rattle.sf_lookup.proofs.Nearing.{read_last, read_on}
use Rattle.sf_lookup.proofs.Rows.{latest, latest_begun, latest_holds, latest_stops}
use Rattle.sf_lookup.proofs.row.row_at.Goals as goal

pub returns-then-from-offset-clause-row : goal.returns-then-from-offset-clause-row
returns-then-from-offset-clause-row g c =
    let after : c.args.offset < c.in-Some.row.start = omega (c.if-from-offset.true, c.from.ensures, arith) in
    sym (latest_stops c.args.offset c.loop-row.found c.in-Some.row (rows_left c.next.new.self) after)
    ∙ ap (latest c.args.offset c.loop-row.found) (sym c.in-Some.ensures.steps)
    ∙ c.loop-row.invariant.0 ∙ latest_holds c.args.offset (rows_left c.args.rows) c.requires

pub returns-then-from-offset-clause-cost : goal.returns-then-from-offset-clause-cost
returns-then-from-offset-clause-cost g c =
    let after : c.args.offset < c.in-Some.row.start = omega (c.if-from-offset.true, c.from.ensures, arith) in
    let one = ap (rows_read c.args.offset) c.in-Some.ensures.steps ∙ read_last c.args.offset c.in-Some.row (rows_left c.next.new.self) after in
    omega (c.tick.ensures, one, c.loop-row.invariant.1, arith)

pub loop-row-preserved : goal.loop-row-preserved
loop-row-preserved g c =
    let by : c.in-Some.row.start ≤ c.args.offset = omega (c.if-from-offset.false, c.from.ensures, arith) in
    let more = ap (rows_read c.args.offset) c.in-Some.ensures.steps ∙ read_on c.args.offset c.in-Some.row (rows_left c.next.new.self) by in (
      sym (ap (latest c.args.offset c.loop-row.found) c.in-Some.ensures.steps ∙ latest_begun c.args.offset c.loop-row.found c.in-Some.row (rows_left c.next.new.self) by) ∙ c.loop-row.invariant.0,
      omega (c.tick.ensures, more, c.loop-row.invariant.1, arith),
    )

pub returns-clause-row : goal.returns-clause-row
returns-clause-row g c =
    ap (latest c.args.offset c.loop-row.found) (sym c.in-None.ensures.steps.0)
    ∙ c.loop-row.invariant.0 ∙ latest_holds c.args.offset (rows_left c.args.rows) c.requires

pub returns-clause-cost : goal.returns-clause-cost
returns-clause-cost g c =
    let none = ap (rows_read c.args.offset) c.in-None.ensures.steps.0 in
    omega (none, c.loop-row.invariant.1, arith)
