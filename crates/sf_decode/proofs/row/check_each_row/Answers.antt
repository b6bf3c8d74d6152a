use Rattle.std.proofs.Common.{◌≡◌, ◌-◌, ap, sym, ◌∙◌, arith}
use Rattle.std.proofs.lemmas.Result.{err_from_is_err_and}
use Rattle.sf_decode.specs.Row.{rows_check}
use Rattle.sf_decode.proofs.Loops.{rows_check-none, rows_check-more, rows_check-stop}
use Rattle.sf_decode.proofs.row.check_each_row.Goals as goal

pub returns-in_err-check_row : goal.returns-in_err-check_row
returns-in_err-check_row c =
    let p = err_from_is_err_and c.from_residual.result c.from_residual.ensures.1 in
    rw (p.1, p.2)
    (sym (rows_check-stop c.args.arch c.args.rows.now c.args.origin c.args.start_width c.loop-row.place c.loop-row.least c.loop-row._row c.args.count c.in_err-check_row.field-0.0 c.loop-row-test.true (sym c.in_err-check_row.ensures.check))
    ∙ c.loop-row.invariant.1)

pub loop-row-preserved : goal.loop-row-preserved
loop-row-preserved c = (
  omega (c.row_end-place.ensures.value, c.in_ok-check_row.ensures.within, c.requires.small, arith),
  rw (c.row_end-place.ensures.value, c.from-least.ensures, c.unsigned_at.ensures)
      (rows_check-more c.args.arch c.args.rows.now c.args.origin c.args.start_width c.loop-row.place c.loop-row.least c.loop-row._row c.args.count c.loop-row-test.true (sym c.in_ok-check_row.ensures.check)
      ∙ c.loop-row.invariant.1),
)

pub returns : goal.returns
returns c =
    let none : c.args.count - c.loop-row._row ≡ 0 = omega (c.loop-row-test.false, arith) in
    sym (rows_check-none c.args.arch c.args.rows.now c.args.origin c.args.start_width c.loop-row.place c.loop-row.least)
    ∙ (ap (rows_check c.args.arch c.args.rows.now c.args.origin c.args.start_width c.loop-row.place c.loop-row.least) (sym none) ∙ c.loop-row.invariant.1)
