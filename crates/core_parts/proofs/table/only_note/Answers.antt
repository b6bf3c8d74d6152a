use Rattle.std.specs.List.{filter}
use Rattle.std.specs.Option.{IfSome}
use Rattle.std.proofs.Common.{◌≡◌, [], ◌∷◌, Option, subst, sym, ◌∙◌}
use Rattle.core_parts.specs.declared.segment.SegmentHead.{SegmentHead}
use Rattle.core_parts.specs.Heads.{is_note}
use Rattle.core_parts.proofs.Notes.{one_found}
use Rattle.core_parts.proofs.table.only_note.Goals as goal

pub returns : goal.returns
returns c =
    subst (λ (o : Option SegmentHead). IfSome o (λ note. filter is_note c.args.heads.now ≡ note ∷ [])) (sym c.first_note.ensures)
    (one_found c.args.heads.now (sym c.count_notes.ensures ∙ c.if-count_notes-ne1.false))
