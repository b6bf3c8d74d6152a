use Rattle.std.proofs.Common.{◌≡◌, ℕ, List, map, ap, subst, sym, ◌∙◌}
use Rattle.sf_express.specs.declared.content_ranges.ContentRange.{ContentRange}
use Rattle.sf_express.specs.ContentRanges.{AreRangesOf, range_of_row}
use Rattle.frame_functions.specs.ContentAt.{form_content}
use Rattle.sf_asm.proofs.list_forms.kept_row.Goals as goal

pub returns : goal.returns
returns c = λ f start size key said.
    let are : c.deref.result.now ≡ map range_of_row c.args.func.now.rows = c.deref.ensures.value ∙ c.in_ok-ranges.ensures ∙ ap (map range_of_row) c.as_slice.ensures in
    c.row_in.ensures f start (size ∙ sym c.from.ensures) key
    (subst (λ (ps : List ContentRange). AreRangesOf c.from.result (form_content f) ps) (sym are) (subst (λ (n : ℕ). AreRangesOf n (form_content f) (map range_of_row c.args.func.now.rows)) (sym c.from.ensures) said))
