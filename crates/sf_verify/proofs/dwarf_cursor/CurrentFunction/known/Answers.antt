use Rattle.std.proofs.Common.{◌≡◌, Some, None, List, ap, subst, ◌∙◌}
use Rattle.sf_express.specs.declared.content_ranges.ContentRange.{ContentRange}
use Rattle.sf_express.specs.ContentRanges.{content_by}
use Rattle.sf_verify.proofs.HolderContent.{known_is}
use Rattle.sf_verify.proofs.dwarf_cursor.CurrentFunction.known.Goals as goal

pub returns : goal.returns
returns c = λ arch answers h.
    known_is arch answers c.args.self.now c.args.pc c.range_at-content.result.1 c.in_ok-content.content h c.requires.from c.requires.to c.range_at-content.ensures.from c.range_at-content.ensures.within
    (λ o low high. subst (λ (ps : List ContentRange). content_by o None ps ≡ Some (Some c.in_ok-content.content)) c.deref.ensures.value (c.range_at-content.ensures.says o low high ∙ ap Some c.in_ok-content.was))
