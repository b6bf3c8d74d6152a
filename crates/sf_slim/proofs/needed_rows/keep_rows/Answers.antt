use Rattle.std.proofs.Common.{◌≡◌, None, [], ap, sym, ◌∙◌}
use Rattle.std.proofs.lemmas.List.{append-nil, map-id}
use Rattle.std.proofs.lemmas.Iterator.Consumers.{YieldsList-end, YieldsList-from_first}
use Rattle.sf_model.specs.declared.rows.Row.{Row}
use Rattle.sf_decode.specs.View.{rows_left}
use Rattle.sf_slim.specs.Pass.{kept}
use Rattle.sf_slim.proofs.needed_rows.keep_rows.Goals as goal

pub returns : goal.returns
returns c =
    let given = YieldsList-from_first (λ (r : Row). r) rows_left {s = c.into_iter-row-iterator.result} (rows_left c.args.rows) (ap rows_left c.into_iter-row-iterator.ensures.into_iter_gives) in
    let end = YieldsList-end given c.loop-row.yielded c.loop-row.row-iterator c.loop-row.yielded_by c.next.result c.next.new.self c.in-None.is c.next.ensures.steps in
    let all : c.loop-row.yielded ≡ rows_left c.args.rows = sym (map-id c.loop-row.yielded) ∙ end.0 in
    sym (append-nil c.loop-row.kept) ∙ c.loop-row.invariant [] ∙ ap (kept None c.args.size) (append-nil c.loop-row.yielded ∙ all)
