use Rattle.std.proofs.Common.{arith, ap, length, List}
use Rattle.sf_decode.specs.declared.view.View.{View}
use Rattle.sf_link_c.proofs.Tables.{as_many}
use Rattle.sf_link_c.proofs.merging.merge_open.Goals as goal

pub merge-requires-clause-some : goal.merge-requires-clause-some
merge-requires-clause-some c =
    let same = ap (λ (vs : List View). length vs) c.deref.ensures.value in
    let many = as_many c.args.sections.now c.in-Ok.views.items c.in-Ok.ensures c.requires in
    omega (same, many, c.requires.0, arith)

pub merge-requires-clause-few : goal.merge-requires-clause-few
merge-requires-clause-few c =
    let same = ap (λ (vs : List View). length vs) c.deref.ensures.value in
    let many = as_many c.args.sections.now c.in-Ok.views.items c.in-Ok.ensures c.requires in
    omega (same, many, c.requires.1, arith)
