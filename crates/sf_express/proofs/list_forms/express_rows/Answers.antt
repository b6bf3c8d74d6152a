use Rattle.std.proofs.lemmas.Result.{err_from_is_err_and}
use Rattle.sf_express.proofs.Kept.{goes_on, ends, is_done}
use Rattle.sf_express.proofs.list_forms.express_rows.Goals as goal

pub returns-in_err-row : goal.returns-in_err-row
returns-in_err-row c =
    let p = err_from_is_err_and c.from_residual.result c.from_residual.ensures.1 in
    rw (p.1, p.2) (ends _ _ _ _ _ _ _ _ c.loop-row-test.true c.in_err-row.ensures c.loop-row.invariant)

pub loop-row-preserved : goal.loop-row-preserved
loop-row-preserved c = goes_on _ _ _ _ _ _ _ _ _ c.loop-row-test.true c.in_ok-row.ensures c.in_ok-append.ensures c.loop-row.invariant

pub returns : goal.returns
returns c = is_done _ _ _ _ _ _ c.loop-row-test.false c.loop-row.invariant
