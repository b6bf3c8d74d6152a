use Rattle.std.proofs.Common.{List, [], ◌∷◌, ◌++◌, sym, ap, ◌∙◌, arith}
use Rattle.std.proofs.lemmas.List.FromFn.{map-range_with_len_more}
use Rattle.core_parts.specs.declared.segment.SegmentHead.{SegmentHead}
use Rattle.core_parts.specs.Table.{head_at}
use Rattle.core_parts.proofs.table.heads_at.Goals as goal

pub loop-i-preserved : goal.loop-i-preserved
loop-i-preserved c =
    c.in_ok-push.ensures.items
    ∙ ap (λ (h : SegmentHead). c.loop-i.heads.items ++ h ∷ []) c.head_at.ensures
    ∙ ap (λ (hs : List SegmentHead). hs ++ head_at c.args.table.now c.loop-i.i ∷ []) c.loop-i.invariant
    ∙ sym (map-range_with_len_more (head_at c.args.table.now) 0 c.loop-i.i c.loop-i.i (omega arith))
