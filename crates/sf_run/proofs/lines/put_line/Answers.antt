use Rattle.std.proofs.Common.{◌∷◌, []}
use Rattle.std.proofs.lemmas.Result.{err_from_is_err_and, on_err_weaker}
use Rattle.sf_text.proofs.Appended.{appends_some, appends_front}
use Rattle.sf_run.proofs.lines.put_line.Goals as goal

pub returns-in_err-put_all-clause-prefix : goal.returns-in_err-put_all-clause-prefix
returns-in_err-put_all-clause-prefix g c =
    let p = err_from_is_err_and c.from_residual.result c.from_residual.ensures.1 in
    let h = rw c.as_bytes.ensures.value at c.in_err-put_all.ensures.prefix in
    rw p.1 (appends_front _ _ c.args.text.now (10 ∷ []) h)

pub returns-clause-prefix : goal.returns-clause-prefix
returns-clause-prefix g c =
    let f = rw c.as_bytes.ensures.value at c.in_ok-put_all.ensures.all in
    on_err_weaker c.put_all-2.result (λ h. appends_some _ _ _ c.args.text.now (10 ∷ []) f h) c.put_all-2.ensures.prefix
