use Rattle.std.proofs.Common.{Some, ap, sym, ◌∙◌}
use Rattle.sf_asm.proofs.RowAt.{range_row}
use Rattle.sf_asm.proofs.list_forms.row_in.Goals as goal

pub returns : goal.returns
returns c = λ f start size key said.
    range_row f c.args.ranges.now c.args.start c.args.size c.args.pc c.range_at-content.result.1 c.args.key (Some c.in_ok-content.field-0) start size key said c.requires.from c.requires.to
    c.range_at-content.ensures.from c.range_at-content.ensures.within
    (λ o low high. c.range_at-content.ensures.says o low high ∙ ap Some c.in_ok-content.was)
    (λ differ more same. c.range_at-content.ensures.after differ more (same ∙ ap Some (sym c.in_ok-content.was)))
