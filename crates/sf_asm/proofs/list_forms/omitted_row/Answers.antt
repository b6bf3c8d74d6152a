use Rattle.std.proofs.Common.{List, refl, subst, sym}
use Rattle.sf_express.specs.declared.content_ranges.ContentRange.{ContentRange}
use Rattle.sf_express.specs.ContentRanges.{AreRangesOf}
use Rattle.frame_functions.specs.ContentAt.{form_content}
use Rattle.frame_functions.specs.Descriptions.{described_function}
use Rattle.sf_asm.proofs.list_forms.omitted_row.Goals as goal

pub returns : goal.returns
returns c =
    let f = described_function c.args.description.now in
    c.row_in.ensures f refl refl refl (subst (λ (ps : List ContentRange). AreRangesOf c.args.description.now.facts.size (form_content f) ps) (sym c.deref.ensures.value) c.in_ok-ranges.ensures.said)
