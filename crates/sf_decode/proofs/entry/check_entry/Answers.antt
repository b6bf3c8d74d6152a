use Rattle.std.proofs.Common.{refl, ap, ◌∙◌}
use Rattle.std.proofs.lemmas.Result.{err_from_is_err_and}
use Rattle.sf_decode.specs.Bounds.{bounds_of}
use Rattle.sf_decode.specs.Entry.{follows_check, entry_rows_check}
use Rattle.sf_decode.proofs.EntryChecked.{entry_is, follows_is}
use Rattle.sf_decode.proofs.entry.check_entry.Goals as goal

pub returns-in_err-here-clause-checked : goal.returns-in_err-here-clause-checked
returns-in_err-here-clause-checked c =
    let bytes = c.args.bytes.now in
    let p = err_from_is_err_and c.from_residual.result c.from_residual.ensures.1 in
    rw (p.1, p.2)
    (entry_is bytes c.args.at c.args.i c.entry_place-place.result _ (follows_check bytes c.args.at c.args.i) (entry_rows_check bytes c.entry_place-place.result) c.entry_place-place.ensures.value c.in_err-here.ensures.checked refl refl)

pub returns-in_err-check_follows-clause-checked : goal.returns-in_err-check_follows-clause-checked
returns-in_err-check_follows-clause-checked c =
    let bytes = c.args.bytes.now in
    let here = c.in_ok-here.ensures.bounds ∙ ap (bounds_of bytes c.args.at) c.entry_place-place.ensures.value in
    let follows = c.in_err-check_follows.ensures ∙ follows_is bytes c.args.at c.args.i c.args.before c.in_ok-here.here c.requires.before here in
    let p = err_from_is_err_and c.from_residual-in_err-check_follows.result c.from_residual-in_err-check_follows.ensures.1 in
    rw (p.1, p.2)
    (entry_is bytes c.args.at c.args.i c.entry_place-place.result _ _ (entry_rows_check bytes c.entry_place-place.result) c.entry_place-place.ensures.value c.in_ok-here.ensures.checked follows refl)

pub returns-in_err-check_entry_rows-clause-checked :
    goal.returns-in_err-check_entry_rows-clause-checked
returns-in_err-check_entry_rows-clause-checked c =
    let bytes = c.args.bytes.now in
    let here = c.in_ok-here.ensures.bounds ∙ ap (bounds_of bytes c.args.at) c.entry_place-place.ensures.value in
    let follows = c.in_ok-check_follows.ensures ∙ follows_is bytes c.args.at c.args.i c.args.before c.in_ok-here.here c.requires.before here in
    let p = err_from_is_err_and c.from_residual-in_err-check_entry_rows.result c.from_residual-in_err-check_entry_rows.ensures.1 in
    rw (p.1, p.2)
    (entry_is bytes c.args.at c.args.i c.entry_place-place.result _ _ _ c.entry_place-place.ensures.value c.in_ok-here.ensures.checked follows c.in_err-check_entry_rows.ensures)

pub returns-clause-checked : goal.returns-clause-checked
returns-clause-checked c =
    let bytes = c.args.bytes.now in
    let here = c.in_ok-here.ensures.bounds ∙ ap (bounds_of bytes c.args.at) c.entry_place-place.ensures.value in
    let follows = c.in_ok-check_follows.ensures ∙ follows_is bytes c.args.at c.args.i c.args.before c.in_ok-here.here c.requires.before here in
    entry_is bytes c.args.at c.args.i c.entry_place-place.result _ _ _ c.entry_place-place.ensures.value c.in_ok-here.ensures.checked follows c.in_ok-check_entry_rows.ensures
