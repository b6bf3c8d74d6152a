use Rattle.std.proofs.Common.{◌++◌, ◌∷◌, []}
use Rattle.std.proofs.lemmas.Result.{err_from_is_err_and, on_err_weaker}
use Rattle.sf_text.proofs.Appended.{appends_both, appends_some, appends_front}
use Rattle.sf_text.specs.ShownName.{shown_name}
use Rattle.sf_run.proofs.lines.put_name_line.Goals as goal

pub returns-in_err-put_all-clause-prefix : goal.returns-in_err-put_all-clause-prefix
returns-in_err-put_all-clause-prefix g c =
    let p = err_from_is_err_and c.from_residual.result c.from_residual.ensures.1 in
    let name = shown_name c.args.name.now in
    let h = rw c.as_bytes.ensures.value at c.in_err-put_all.ensures.prefix in
    rw p.1 (appends_front _ _ (c.args.front.now ++ name) (10 ∷ []) (appends_front _ _ c.args.front.now name h))

pub returns-in_err-put_name-clause-prefix : goal.returns-in_err-put_name-clause-prefix
returns-in_err-put_name-clause-prefix g c =
    let p = err_from_is_err_and c.from_residual-in_err-put_name.result c.from_residual-in_err-put_name.ensures.1 in
    let name = shown_name c.args.name.now in
    let f = rw c.as_bytes.ensures.value at c.in_ok-put_all.ensures.all in
    rw p.1 (appends_front _ _ (c.args.front.now ++ name) (10 ∷ []) (appends_some _ _ _ c.args.front.now name f c.in_err-put_name.ensures.prefix))

pub returns-clause-prefix : goal.returns-clause-prefix
returns-clause-prefix g c =
    let name = shown_name c.args.name.now in
    let f = rw c.as_bytes.ensures.value at c.in_ok-put_all.ensures.all in
    let both = appends_both _ _ _ c.args.front.now name f c.in_ok-put_name.ensures.all in
    on_err_weaker c.put_all-2.result (λ h. appends_some _ _ _ (c.args.front.now ++ name) (10 ∷ []) both h) c.put_all-2.ensures.prefix
